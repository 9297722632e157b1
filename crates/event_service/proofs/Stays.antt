-- The event services stay what they should be.
use Rattle.std.proofs.Common.{◌≡◌, ℕ, ◌<◌, ◌||◌, true, false, List, length, refl, ap, sym, ◌∙◌, subst, arith, Option, Some, None, is_some, option_map, Ok, if◌then◌else◌, IfOk}
use Rattle.std.specs.Prelude.{slice_index_or, slice_set}
use Rattle.std.specs.Option.{option_map_or}
use Rattle.std.specs.List.{position_from}
use Rattle.std.proofs.lemmas.List.{get_or_default}
use Rattle.lc_model.specs.declared.record.Moment.{Moment}
use Rattle.lc_model.specs.declared.rule.EventKind.{EventKind}
use Rattle.lc_model.specs.Name.{Name, is_named, host_name}
use Rattle.lc_model.specs.Refusal.{refused}
use Rattle.lc_model.specs.Kept.Call.{new_sender}
use Rattle.lc_model.specs.Services.Events.{Sender, EventService, IsEventService, is_sender, origin_named, registered_at, asked_by, accounted_at}
use Rattle.lc_model.specs.Laws.Senders.{ChangesKeep, RegisteringKeeps, UnregisteringKeeps, EventsKeep}
use Rattle.event_service.specs.Service.{service_of, AreServices}

module _ (host : Sender) (places : List (Option Sender)) (sent : ℕ) (are : AreServices host places sent) (seat : ℕ) (within : seat < 8) (place : Option Sender) (at : place ≡ slice_index_or places seat place) where
  here : slice_index_or places seat None ≡ place
  here = sym (at ∙ get_or_default places seat place None (let size : length places ≡ 8 = are.service.seats in omega arith))

  pub registered : RegisteringKeeps → (name : Name) (found : Option ℕ) (sender : Sender) → false ≡ is_named name host_name → found ≡ position_from (is_sender name) 0 places → false ≡ is_some found →
      false ≡ is_some place → sender ≡ record { name = name; events = new_sender } → AreServices host (slice_set places seat (Some sender)) sent
  registered keeps name found sender differ searched absent free new = record { service = done; host_named = are.host_named }
    where
      service : EventService
      service = service_of host places sent

      nobody : (is_some (slice_index_or places seat None) || is_some (origin_named name service)) ≡ false
      nobody =
          (λ i. is_some (here i) || is_some (if sym differ i then Some None else option_map Some (sym searched i)))
          ∙ (λ i. sym free i || is_some (option_map Some found)) ∙ none found absent
        where
          none : (o : Option ℕ) → false ≡ is_some o → is_some (option_map Some o) ≡ false
          none None e = refl
          none (Some k) e = sym e

      kept : IfOk (registered_at seat name service) IsEventService
      kept = keeps seat name service within are.service

      done : IsEventService (service_of host (slice_set places seat (Some sender)) sent)
      done =
          subst (λ (s : Sender). IsEventService (service_of host (slice_set places seat (Some s)) sent)) (sym new)
          (subst (λ t. IfOk (if t then refused 103 else Ok (service_of host (slice_set places seat (Some (record { name = name; events = new_sender }))) sent)) IsEventService) nobody kept)

  pub unregistered : UnregisteringKeeps → is_some place ≡ true → AreServices host (slice_set places seat None) sent
  unregistered keeps there = record {
    service =
        subst (λ t. IfOk (if t then Ok (service_of host (slice_set places seat None) sent) else refused 101) IsEventService) (ap (λ (o : Option Sender). is_some o) here ∙ there)
        (keeps seat (service_of host places sent) are.service);
    host_named = are.host_named;
  }

  pub asked : EventsKeep → (moment : Moment) (id : ℕ) (kind : EventKind) (text : List ℕ) (sender after : Sender) (count : ℕ) → place ≡ Some sender →
      after ≡ record { name = sender.name; events = (asked_by sender moment id kind text sent).events } → count ≡ (asked_by sender moment id kind text sent).sent →
      AreServices host (slice_set places seat (Some after)) count
  asked keeps moment id kind text sender after count is_sender changed counted = record {
    service =
        subst (λ (s : Sender). IsEventService (service_of host (slice_set places seat (Some s)) count)) (sym changed)
        (subst (λ n. IsEventService (service_of host (slice_set places seat (Some (record { name = sender.name; events = (asked_by sender moment id kind text sent).events }))) n)) (sym counted)
        (subst (λ (o : Option Sender). IsEventService (option_map_or (λ (s : Sender). accounted_at (Some seat) s (asked_by s moment id kind text sent) (service_of host places sent)) o (service_of host places sent, None)).0)
        (here ∙ is_sender) (keeps (Some seat) moment id kind text (service_of host places sent) are.service)));
    host_named = are.host_named;
  }

-- a sender at a place that was searched for has other types or filters
pub changed : (host : Sender) (places : List (Option Sender)) (sent k : ℕ) (place : Option Sender) (sender after : Sender) → ChangesKeep → AreServices host places sent → k < length places →
    place ≡ slice_index_or places k place → place ≡ Some sender → after.name ≡ sender.name → AreServices host (slice_set places k (Some after)) sent
changed host places sent k place sender after keeps are within at is_sender same = record {
  service =
      subst (λ name. IsEventService (service_of host (slice_set places k (Some (record { name = name; events = after.events }))) sent)) (sym same)
      (keeps (Some k) sender after.events (service_of host places sent) are.service (sym (at ∙ get_or_default places k place None within) ∙ is_sender));
  host_named = are.host_named;
}
