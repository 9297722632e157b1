-- The calls of the event services keep what is so between them, and go by names.
use Rattle.std.proofs.Common.{◌≡◌, ℕ, ◌+◌, ◌%◌, ◌<◌, ◌==◌, Bool, true, false, ◌||◌, List, [], ◌∷◌, ◌++◌, length, refl, ap, sym, ◌∙◌, subst, arith, Option, Some, None, is_some, option_map, Result, Ok, Err, if◌then◌else◌, IsFalse, true≢false, IfOk}
use Rattle.std.specs.Prelude.{slice_index_or, slice_set, option_to_list, IfSome}
use Rattle.std.specs.Option.{option_map_or}
use Rattle.std.specs.List.{position_from}
use Rattle.std.proofs.lemmas.List.{length-set}
use Rattle.std.proofs.lemmas.Bool.Decides.{Decides-eqb}
use Rattle.lc_model.specs.declared.record.Moment.{Moment}
use Rattle.lc_model.specs.declared.rule.EventKind.{EventKind}
use Rattle.lc_model.specs.Name.{Name, is_named, host_name, AreDistinct}
use Rattle.lc_model.specs.Packet.{event_mid}
use Rattle.lc_model.specs.Refusal.{Refusal, ◌>>=◌, found, refused}
use Rattle.lc_model.specs.Events.Log.{LogItem, Requested}
use Rattle.lc_model.specs.Events.Request.{Event}
use Rattle.lc_model.specs.Events.Outgoing.{event_packet}
use Rattle.lc_model.specs.Kept.Summary.{EventState}
use Rattle.lc_model.specs.Kept.Next.{next_chosen, events_after, counts_after, Accounts, next_all_delivered}
use Rattle.lc_model.specs.Kept.Call.{ServicesNow, with_at, new_sender, accounted}
use Rattle.lc_model.specs.Kept.Executive.{joined_now}
use Rattle.lc_model.specs.Services.Events.{counts_with, Sender, EventService, Origin, IsEventService, is_sender, events_among, sender_named, origin_named, sender_at, with_events, registered_at, unregistered_at, asked_by, accounted_at, event_asked}
use Rattle.lc_model.specs.Laws.Senders.{ChangesKeep, RegisteringKeeps, UnregisteringKeeps, CommandsKeep, EventsKeep, RegisteringByName, UnregisteringByName, CommandsByName, EventsByName}
use Rattle.lc_model.proofs.Services.SenderNames.{same_name, other_way, IsAbsent, IsFirst, alone_is_first, absent_at, alone, set_first, set_free, set_gone, absent_has_nothing, first, not_found, first_has, first_is_some, same_names, absent_without, distinct_without, absent_with, distinct_with}
use Rattle.lc_model.proofs.Facts.{or_first, or_second}

-- ---- HOST and the seats

-- HOST has its own, and names of seats change nothing of it
beside_host : (events : Option EventState) (name other : Name) (service : EventService) (places : List (Option Sender)) → IsFalse (is_named name host_name) →
    events_among places other ≡ (if is_named other name then events else events_among service.places other) →
    sender_named (record service { places = places }) other ≡ with_at name events (sender_named service) other
beside_host events name other service places differ e = by_test (is_named other host_name) refl
  where
    by_test : (t : Bool) → is_named other host_name ≡ t →
        (if t then Some service.host else events_among places other)
        ≡ (if is_named other name then events else if t then Some service.host else events_among service.places other)
    by_test false h = e
    by_test true h =
        ap (λ u. if u then events else Some service.host)
        (sym (other_way name other (subst (λ n. IsFalse (is_named name n)) (sym (same_name other host_name h)) differ)))

-- HOST's own changes
host_changed : (events : EventState) (other : Name) (service : EventService) →
    sender_named (record service { host = events }) other ≡ with_at host_name (Some events) (sender_named service) other
host_changed events other service = by_test (is_named other host_name)
  where
    by_test : (t : Bool) → (if t then Some events else events_among service.places other) ≡ (if t then Some events else if t then Some service.host else events_among service.places other)
    by_test true = refl
    by_test false = refl

-- a sender of a seat isn't called HOST
not_host : (service : EventService) (seat : ℕ) (sender : Sender) → IsEventService service → slice_index_or service.places seat None ≡ Some sender →
    IsFalse (is_named sender.name host_name)
not_host service seat sender h e = other_way host_name sender.name (absent_at host_name sender service.places seat h.names.0 e)

-- other types and filters of a place's sender, under its name
changed_at : (origin : Origin) (sender : Sender) (events : EventState) (service : EventService) → IsEventService service → sender_at origin service ≡ Some sender →
    (other : Name) → sender_named (with_events origin sender events service) other ≡ with_at sender.name (Some events) (sender_named service) other
changed_at None sender events service h e other =
    let same : host_name ≡ sender.name = let P : Option Sender → Name = λ o. option_map_or (λ (s : Sender). s.name) o host_name in ap P e in
    subst (λ n. sender_named (record service { host = events }) other ≡ with_at n (Some events) (sender_named service) other) same (host_changed events other service)
changed_at (Some seat) sender events service h e other =
    beside_host (Some events) sender.name other service (slice_set service.places seat (Some (record { name = sender.name; events = events })))
    (not_host service seat sender h e)
    (set_first sender.name events other service.places seat (alone_is_first sender.name service.places seat (alone sender service.places seat h.names.1 e)))

-- ---- what is kept

pub with_events_keeps : ChangesKeep
with_events_keeps None sender events service h e = record { seats = h.seats; names = h.names; count = h.count }
with_events_keeps (Some seat) sender events service h e = record {
  seats = length-set service.places seat (Some (record { name = sender.name; events = events })) ∙ h.seats;
  names = subst (λ names. AreDistinct (host_name ∷ names)) (sym (same_names sender events service.places seat e)) h.names;
  count = h.count;
}

-- a seat as a place
abbrev seat_origin : Option ℕ → Option Origin
seat_origin seat = option_map Some seat

-- the place of a name that is registered nowhere
nowhere : (name : Name) (service : EventService) → is_some (origin_named name service) ≡ false → IsFalse (is_named name host_name) × IsAbsent name service.places
nowhere name service e = by_test (is_named name host_name) refl
  where
    none : (o : Option ℕ) → is_some (seat_origin o) ≡ false → o ≡ None
    none None h = refl
    none (Some k) h = absurd (true≢false h)

    by_test : (t : Bool) → is_named name host_name ≡ t → IsFalse (is_named name host_name) × IsAbsent name service.places
    by_test true h =
        absurd (true≢false (sym (ap (λ u. is_some (if u then Some None else seat_origin (position_from (is_sender name) 0 service.places))) h) ∙ e))
    by_test false h = (
      h,
      not_found name 0 service.places (none (position_from (is_sender name) 0 service.places)
          (sym (ap (λ u. is_some (if u then Some None else seat_origin (position_from (is_sender name) 0 service.places))) h) ∙ e)),
    )

no_sender : (o : Option Sender) → is_some o ≡ false → o ≡ None
no_sender None e = refl
no_sender (Some s) e = absurd (true≢false e)

-- what holds of a registered service where nothing is refused
registered : (P : EventService → Type 0) (seat : ℕ) (name : Name) (service : EventService) →
    (slice_index_or service.places seat None ≡ None → IsFalse (is_named name host_name) → IsAbsent name service.places →
    P (record service { places = slice_set service.places seat (Some (record { name = name; events = new_sender })) })) →
    IfOk (registered_at seat name service) P
registered P seat name service goes = by_test (is_some (slice_index_or service.places seat None) || is_some (origin_named name service)) refl
  where
    by_test : (t : Bool) → (is_some (slice_index_or service.places seat None) || is_some (origin_named name service)) ≡ t →
        IfOk (if t then refused 103 else Ok (record service { places = slice_set service.places seat (Some (record { name = name; events = new_sender })) })) P
    by_test true h = tt
    by_test false h =
        let absent = nowhere name service (or_second (is_some (slice_index_or service.places seat None)) (is_some (origin_named name service)) h) in
        goes (no_sender (slice_index_or service.places seat None) (or_first (is_some (slice_index_or service.places seat None)) (is_some (origin_named name service)) h))
        absent.0 absent.1

pub registering_keeps : RegisteringKeeps
registering_keeps seat name service within h =
    registered IsEventService seat name service (λ free differ absent. record {
      seats = length-set service.places seat (Some (record { name = name; events = new_sender })) ∙ h.seats;
      names = (
        absent_with host_name (record { name = name; events = new_sender }) service.places seat free (other_way name host_name differ) h.names.0,
        distinct_with (record { name = name; events = new_sender }) service.places seat free absent h.names.1,
      );
      count = h.count;
    })

pub registering_by_name : RegisteringByName
registering_by_name seat name service within h =
    registered (λ after. sender_named after ≡ with_at name (Some new_sender) (sender_named service)) seat name service (λ free differ absent.
    λ i other. beside_host (Some new_sender) name other service (slice_set service.places seat (Some (record { name = name; events = new_sender }))) differ
    (set_free name new_sender other service.places seat free (let size : length service.places ≡ 8 = h.seats in omega arith) absent) i)

pub unregistering_keeps : UnregisteringKeeps
unregistering_keeps seat service h = by_test (is_some (slice_index_or service.places seat None))
  where
    by_test : (t : Bool) → IfOk (if t then Ok (record service { places = slice_set service.places seat None }) else refused 101) IsEventService
    by_test false = tt
    by_test true = record {
      seats = length-set service.places seat None ∙ h.seats;
      names = (absent_without host_name service.places seat h.names.0, distinct_without service.places seat h.names.1);
      count = h.count;
    }

pub unregistering_by_name : UnregisteringByName
unregistering_by_name seat sender service h e = by_test (is_some (slice_index_or service.places seat None))
  where
    by_test : (t : Bool) → IfOk (if t then Ok (record service { places = slice_set service.places seat None }) else refused 101)
        (λ after. sender_named after ≡ with_at sender.name None (sender_named service))
    by_test false = tt
    by_test true = λ i other. beside_host None sender.name other service (slice_set service.places seat None) (not_host service seat sender h e)
        (set_gone sender.name other service.places seat (alone sender service.places seat h.names.1 e)) i

-- ---- commands

pub commands_keep : CommandsKeep
commands_keep name item service h = by_origin (origin_named name service)
  where
    by_events : (origin : Origin) (sender : Sender) → sender_at origin service ≡ Some sender → (r : Result EventState Refusal) →
        IfOk (r >>= (λ events. Ok (with_events origin sender events service))) IsEventService
    by_events origin sender e (Ok events) = with_events_keeps origin sender events service h e
    by_events origin sender e (Err refusal) = tt

    by_sender : (origin : Origin) (o : Option Sender) → sender_at origin service ≡ o →
        IfOk (found o 101 >>= (λ sender. joined_now item sender.events >>= (λ events. Ok (with_events origin sender events service)))) IsEventService
    by_sender origin None e = tt
    by_sender origin (Some sender) e = by_events origin sender e (joined_now item sender.events)

    by_origin : (o : Option Origin) →
        IfOk (found o 101 >>= (λ origin. found (sender_at origin service) 101 >>= (λ sender. joined_now item sender.events >>= (λ events. Ok (with_events origin sender events service))))) IsEventService
    by_origin None = tt
    by_origin (Some origin) = by_sender origin (sender_at origin service) refl

-- ---- events

pub events_keep : EventsKeep
events_keep origin moment id kind text service h = by_sender (sender_at origin service) refl
  where
    fits : (t : Bool) → (if t then (service.sent + 1) % 16384 else service.sent) < 16384
    fits true = omega arith
    fits false = h.count

    by_sender : (o : Option Sender) → sender_at origin service ≡ o →
        IsEventService (option_map_or (λ (sender : Sender). accounted_at origin sender (asked_by sender moment id kind text service.sent) service) o (service, None)).0
    by_sender None e = h
    by_sender (Some sender) e =
        let kept = with_events_keeps origin sender (events_after (Requested id kind) sender.events) service h e in
        record { seats = kept.seats; names = kept.names; count = fits (next_chosen id kind sender.events) }

-- ---- under names

-- what a command answers, by the place of its name and by what is held under it
abbrev CommandAgrees : Name → LogItem → EventService → Option Origin → Option EventState → Type 0
CommandAgrees name item service place held =
    ((found place 101 >>= (λ origin. found (sender_at origin service) 101 >>= (λ sender. joined_now item sender.events >>= (λ events. Ok (with_events origin sender events service)))))
    >>= (λ after. Ok (sender_named after)))
    ≡ (found held 101 >>= (λ events. joined_now item events >>= (λ after. Ok (with_at name (Some after) (sender_named service)))))

-- where the place's sender has what is held under the name
command_agrees : (name : Name) (item : LogItem) (service : EventService) (origin : Origin) (sender : Sender) → sender_at origin service ≡ Some sender →
    ((events : EventState) → sender_named (with_events origin sender events service) ≡ with_at name (Some events) (sender_named service)) →
    CommandAgrees name item service (Some origin) (Some sender.events)
command_agrees name item service origin sender e changed =
    subst (λ o. ((found o 101 >>= (λ sender. joined_now item sender.events >>= (λ events. Ok (with_events origin sender events service)))) >>= (λ after. Ok (sender_named after)))
    ≡ (joined_now item sender.events >>= (λ after. Ok (with_at name (Some after) (sender_named service))))) (sym e) (by_answer (joined_now item sender.events))
  where
    by_answer : (r : Result EventState Refusal) →
        ((r >>= (λ events. Ok (with_events origin sender events service))) >>= (λ after. Ok (sender_named after)))
        ≡ (r >>= (λ after. Ok (with_at name (Some after) (sender_named service))))
    by_answer (Ok events) = ap Ok (changed events)
    by_answer (Err refusal) = refl

pub commands_by_name : CommandsByName
commands_by_name name item service = by_host (is_named name host_name) refl
  where
    at_host : host_name ≡ name → CommandAgrees name item service (Some None) (Some service.host)
    at_host e =
        command_agrees name item service None (record { name = host_name; events = service.host }) refl
        (λ events. λ i other. subst (λ n. sender_named (record service { host = events }) other ≡ with_at n (Some events) (sender_named service) other) e (host_changed events other service) i)

    at_seat : (seat : ℕ) → IsFalse (is_named name host_name) → IsFirst name service.places seat → (o : Option Sender) → slice_index_or service.places seat None ≡ o →
        CommandAgrees name item service (Some (Some seat)) (events_among service.places name)
    at_seat seat differ is_first None e = absurd (first_is_some name service.places seat is_first e)
    at_seat seat differ is_first (Some sender) e =
        let has = first_has name sender service.places seat is_first e in
        subst (λ o. CommandAgrees name item service (Some (Some seat)) o) (sym has.1)
        (command_agrees name item service (Some seat) sender e (λ events. λ i other.
        subst (λ n. sender_named (record service { places = slice_set service.places seat (Some (record { name = n; events = events })) }) other ≡ with_at name (Some events) (sender_named service) other)
        (sym has.0)
        (beside_host (Some events) name other service (slice_set service.places seat (Some (record { name = name; events = events }))) differ
        (set_first name events other service.places seat is_first)) i))

    by_place : IsFalse (is_named name host_name) → (o : Option ℕ) → position_from (is_sender name) 0 service.places ≡ o →
        CommandAgrees name item service (seat_origin o) (events_among service.places name)
    by_place differ None e =
        subst (λ o. CommandAgrees name item service None o) (sym (absent_has_nothing name service.places (not_found name 0 service.places e))) refl
    by_place differ (Some seat) e = at_seat seat differ (first name seat service.places e) (slice_index_or service.places seat None) refl

    by_host : (t : Bool) → is_named name host_name ≡ t →
        CommandAgrees name item service (if t then Some None else seat_origin (position_from (is_sender name) 0 service.places)) (if t then Some service.host else events_among service.places name)
    by_host true h = at_host (sym (same_name name host_name h))
    by_host false h = by_place h (position_from (is_sender name) 0 service.places) refl

-- ---- events under names

-- the counts, where no event packet was sent, and where one was
counts_stay : (sent : ℕ) (counts : ℕ → ℕ) → counts event_mid ≡ sent → counts ≡ counts_with sent counts
counts_stay sent counts e i mid = by_test (mid == event_mid) refl i
  where
    by_test : (t : Bool) → (mid == event_mid) ≡ t → counts mid ≡ (if t then sent else counts mid)
    by_test true h = ap counts ((Decides-eqb mid event_mid).0 h) ∙ e
    by_test false h = refl

counts_rise : (sent : ℕ) (counts : ℕ → ℕ) → counts event_mid ≡ sent → counts_after event_mid counts ≡ counts_with ((sent + 1) % 16384) counts
counts_rise sent counts e i mid = by_test (mid == event_mid) refl i
  where
    by_test : (t : Bool) → (mid == event_mid) ≡ t → (if t then (counts mid + 1) % 16384 else counts mid) ≡ (if t then (sent + 1) % 16384 else counts mid)
    by_test true h = ap (λ n. (n + 1) % 16384) (ap counts ((Decides-eqb mid event_mid).0 h) ∙ e)
    by_test false h = refl

-- what a sender of these types and filters asks for
event_accounts : {Image : Type 0} (name : Name) (events : EventState) (moment : Moment) (id : ℕ) (kind : EventKind) (text : List ℕ) (sent : ℕ) (services : ServicesNow Image) (t : Bool) →
    services.counts event_mid ≡ sent →
    (after : Name → Option EventState) → after ≡ with_at name (Some (events_after (Requested id kind) events)) services.events →
    accounted name services
    (let step : Accounts × List (List ℕ) = (let changed : EventState = events_after (Requested id kind) events in
    if t then (record { events = changed; counts = counts_after event_mid services.counts }, event_packet (services.counts event_mid) moment name id kind text ∷ [])
    else (record { events = changed; counts = services.counts }, [])) in (step.0, step.1 ++ []))
    ≡ (
      record services { events = after; counts = counts_with (if t then (sent + 1) % 16384 else sent) services.counts },
      option_to_list (if t then Some (event_packet sent moment name id kind text) else None),
    )
event_accounts name events moment id kind text sent services true count after changed = λ i.
    (record services { events = sym changed i; counts = counts_rise sent services.counts count i }, event_packet (count i) moment name id kind text ∷ [])
event_accounts name events moment id kind text sent services false count after changed = λ i.
    (record services { events = sym changed i; counts = counts_stay sent services.counts count i }, [])

-- a place's sender is what is held under its name
named_has : (origin : Origin) (sender : Sender) (service : EventService) → IsEventService service → sender_at origin service ≡ Some sender →
    sender_named service sender.name ≡ Some sender.events
named_has None sender service h e =
    let host : Sender = record { name = host_name; events = service.host } in
    let same : host ≡ sender = cc in
    let P : Sender → Type 0 = λ (s : Sender). sender_named service s.name ≡ Some s.events in subst P same refl
named_has (Some seat) sender service h e =
    ap (λ t. if t then Some service.host else events_among service.places sender.name) (not_host service seat sender h e)
    ∙ (first_has sender.name sender service.places seat (alone_is_first sender.name service.places seat (alone sender service.places seat h.names.1 e)) e).1

pub events_by_name : {Image : Type 0} → EventsByName Image
events_by_name {Image} origin sender moment id kind text service services h at named count =
    let changed : EventState = events_after (Requested id kind) sender.events in
    let has : services.events sender.name ≡ Some sender.events = ap (λ f. f sender.name) named ∙ named_has origin sender service h at in
    let under : sender_named (with_events origin sender changed service) ≡ with_at sender.name (Some changed) services.events =
    (λ i other. changed_at origin sender changed service h at other i) ∙ ap (λ f. with_at sender.name (Some changed) f) (sym named) in
    subst (λ o. asked_for o ≡ told (event_asked origin moment id kind text service)) (sym has)
    (subst (λ o. asked_for (Some sender.events) ≡ told (answer o)) (sym at)
    (event_accounts sender.name sender.events moment id kind text service.sent services (next_chosen id kind sender.events) count
    (sender_named (with_events origin sender changed service)) under))
  where
    asked_for : Option EventState → ServicesNow Image × List (List ℕ)
    asked_for held =
        option_map_or (λ (events : EventState). accounted sender.name services
        (next_all_delivered moment (Event sender.name id kind text ∷ []) (record { events = events; counts = services.counts }))) held (services, [])

    told : EventService × Option (List ℕ) → ServicesNow Image × List (List ℕ)
    told step = (record services { events = sender_named step.0; counts = counts_with step.0.sent services.counts }, option_to_list step.1)

    answer : Option Sender → EventService × Option (List ℕ)
    answer o = option_map_or (λ (s : Sender). accounted_at origin s (asked_by s moment id kind text service.sent) service) o (service, None)

-- ---- a seat gives its sender back

-- the senders without that of a seat
abbrev pub without_sender : ℕ → EventService → EventService
without_sender seat service = record service { places = slice_set service.places seat None }

-- and nothing is held under its name then
pub name_is_gone : (seat : ℕ) (service now : EventService) → UnregisteringByName → IsEventService service → now ≡ without_sender seat service →
    unregistered_at seat service ≡ Ok (without_sender seat service) →
    IfSome (sender_at (Some seat) service) (λ (sender : Sender). sender_named now ≡ with_at sender.name None (sender_named service))
name_is_gone seat service now law sound is goes = by_place (sender_at (Some seat) service) refl
  where
    by_place : (place : Option Sender) → sender_at (Some seat) service ≡ place → IfSome place (λ (sender : Sender). sender_named now ≡ with_at sender.name None (sender_named service))
    by_place None e = tt
    by_place (Some sender) e = ap sender_named is
        ∙ subst (λ r. IfOk r (λ after. sender_named after ≡ with_at sender.name None (sender_named service))) goes (law seat sender service sound e)
