-- An event that is asked of the services is sent as the host in numbers sends it.
use Rattle.std.proofs.Common.{◌≡◌, ◌≢◌, refl, ap, sym, ◌∙◌, subst, ℕ, Bool, true, false, ◌==◌, List, [], ◌∷◌, ◌++◌, if◌then◌else◌, Option, Some, None}
use Rattle.std.specs.Prelude.{IfSome, option_map, option_to_list}
use Rattle.std.specs.List.{concat}
use Rattle.std.proofs.lemmas.List.{append-nil, get_or-set_same, get_or-set_other}
use Rattle.lc_model.specs.declared.record.Moment.{Moment}
use Rattle.lc_model.specs.declared.rule.EventKind.{EventKind}
use Rattle.lc_model.specs.Packet.{event_mid}
use Rattle.lc_model.specs.Events.Request.{Event}
use Rattle.lc_model.specs.Kept.Call.{sent_by}
use Rattle.lc_model.specs.Laws.Senders.{EventsByName}
use Rattle.lc_model.specs.Services.Events.{counts_with, Sender, EventService, Origin, IsEventService, Asked, sender_at, sender_named, asked_by, accounted_at, event_asked}
use Rattle.lc_model.specs.Services.Seen.{services_seen, count_among, files_seen, slot_among}
use Rattle.event_service.specs.Packet.{with_packet}
use Rattle.app_host.specs.declared.services.Services.{Services}
use Rattle.app_host.specs.Shared.{shared}
use Rattle.app_host.specs.Telling.{Tells, name_of}
use Rattle.app_host.proofs.Seats.{inside}

counts_again : (sent before : ℕ) (counts : ℕ → ℕ) (mid : ℕ) → counts_with sent (counts_with before counts) mid ≡ counts_with sent counts mid
counts_again sent before counts mid = by_test (mid == event_mid)
  where
    by_test : (test : Bool) → (if test then sent else (if test then before else counts mid)) ≡ (if test then sent else counts mid)
    by_test true = refl
    by_test false = refl

pub one_packet : (bytes packet : List ℕ) → bytes ++ packet ≡ bytes ++ concat (option_to_list (Some packet))
one_packet bytes packet = ap (λ more. bytes ++ more) (sym (append-nil packet))

pub no_packet : (bytes : List ℕ) → bytes ≡ bytes ++ concat (option_to_list None)
no_packet bytes = sym (append-nil bytes)

-- with a packet or without
pub one_or_none : (bytes : List ℕ) (packet : Option (List ℕ)) → with_packet bytes packet ≡ bytes ++ concat (option_to_list packet)
one_or_none bytes None = no_packet bytes
one_or_none bytes (Some packet) = one_packet bytes packet

module _ (moment : Moment) (id : ℕ) (kind : EventKind) (text : List ℕ) where
  asked_at : (origin : Origin) (sender : Sender) (service : EventService) → sender_at origin service ≡ Some sender →
      event_asked origin moment id kind text service ≡ accounted_at origin sender (asked_by sender moment id kind text service.sent) service
  asked_at origin sender service there = cc

  own_stays : (origin : Origin) (sender : Sender) (asked : Asked) (service : EventService) → sender_at origin service ≡ Some sender →
      option_map name_of (sender_at origin (accounted_at origin sender asked service).0) ≡ Some sender.name
  own_stays None sender asked service there = cc
  own_stays (Some seat) sender asked service there =
      ap (option_map name_of) (get_or-set_same service.places seat (Some (record { name = sender.name; events = asked.events })) None (inside service.places seat sender there))

  others_stay : (origin other : Origin) (sender : Sender) (asked : Asked) (service : EventService) → other ≢ origin →
      sender_at other (accounted_at origin sender asked service).0 ≡ sender_at other service
  others_stay None None sender asked service two = absurd (two refl)
  others_stay None (Some seat) sender asked service two = refl
  others_stay (Some seat) None sender asked service two = refl
  others_stay (Some seat) (Some other) sender asked service two =
      get_or-set_other service.places seat other (Some (record { name = sender.name; events = asked.events })) None (λ same. two (ap Some same))

  pub told : (origin : Origin) (sender : Sender) (before after : Services) → EventsByName (List ℕ) → IsEventService before.events →
      before.moment ≡ moment →
      sender_at origin before.events ≡ Some sender →
      after.events ≡ (event_asked origin moment id kind text before.events).0 →
      after.outgoing ≡ before.outgoing ++ concat (option_to_list (event_asked origin moment id kind text before.events).1) →
      after.bus ≡ before.bus → after.tables ≡ before.tables → after.counts ≡ before.counts → after.moment ≡ before.moment →
      Tells origin sender.name (Event sender.name id kind text ∷ []) before after
  unfolding shared
  told origin sender before after law sound now there events outgoing bus tables counts moment_is =
      let step : EventService × Option (List ℕ) = event_asked origin moment id kind text before.events in
      let sent = subst (λ m. sent_by m sender.name (Event sender.name id kind text ∷ []) (shared before)
      ≡ (record (shared before) { events = sender_named step.0; counts = counts_with step.0.sent (shared before).counts }, option_to_list step.1)) (sym now)
      (law origin sender moment id kind text before.events (shared before) sound there refl refl) in
      record {
        services = (λ i. services_seen (events i) (tables i) (counts i))
            ∙ (λ i. record {
              files = files_seen before.tables.files;
              slots = slot_among before.tables.places;
              events = sender_named step.0;
              counts = λ mid. sym (counts_again step.0.sent before.events.sent (count_among before.counts) mid) i;
            })
            ∙ sym (ap (λ s. s.0) sent);
        outgoing = outgoing ∙ ap (λ packets. before.outgoing ++ concat packets) (sym (ap (λ s. s.1) sent));
        own = ap (λ e. option_map name_of (sender_at origin e)) (events ∙ ap (λ s. s.0) (asked_at origin sender before.events there))
            ∙ own_stays origin sender (asked_by sender moment id kind text before.events.sent) before.events there ∙ sym (ap (option_map name_of) there);
        others = λ other two. ap (sender_at other) (events ∙ ap (λ s. s.0) (asked_at origin sender before.events there))
            ∙ others_stay origin other sender (asked_by sender moment id kind text before.events.sent) before.events two;
        bus = bus;
        tables = tables;
        moment = moment_is;
      }

  pub told_there : (origin : Origin) (before after : Services) (packet : Option (List ℕ)) → EventsByName (List ℕ) → IsEventService before.events →
      before.moment ≡ moment →
      after.events ≡ (event_asked origin moment id kind text before.events).0 →
      packet ≡ (event_asked origin moment id kind text before.events).1 →
      after.outgoing ≡ before.outgoing ++ concat (option_to_list packet) →
      after.bus ≡ before.bus → after.tables ≡ before.tables → after.counts ≡ before.counts → after.moment ≡ before.moment →
      IfSome (sender_at origin before.events) (λ (sender : Sender). Tells origin sender.name (Event sender.name id kind text ∷ []) before after)
  told_there origin before after packet law sound now events sent outgoing bus tables counts moment_is = by_place (sender_at origin before.events) refl
    where
      by_place : (place : Option Sender) → sender_at origin before.events ≡ place → IfSome place (λ (sender : Sender). Tells origin sender.name (Event sender.name id kind text ∷ []) before after)
      by_place None there = tt
      by_place (Some sender) there = told origin sender before after law sound now there events
          (outgoing ∙ ap (λ p. before.outgoing ++ concat (option_to_list p)) sent) bus tables counts moment_is
