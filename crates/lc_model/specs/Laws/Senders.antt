-- Laws of the event services: by seats, by names and by whole logs.
use Rattle.std.specs.Prelude.{◌≡◌, ℕ, ◌<◌, List, [], ◌∷◌, Option, Some, None, option_to_list, Ok, IfOk}
use Rattle.std.specs.List.{AllByRecursion}
use Rattle.lc_model.specs.declared.record.Moment.{Moment}
use Rattle.lc_model.specs.declared.rule.EventKind.{EventKind}
use Rattle.lc_model.specs.Name.{Name}
use Rattle.lc_model.specs.Packet.{event_mid}
use Rattle.lc_model.specs.Refusal.{◌>>=◌, found, not_registered}
use Rattle.lc_model.specs.Events.Log.{LogItem}
use Rattle.lc_model.specs.Events.Request.{Event}
use Rattle.lc_model.specs.Kept.Summary.{EventState}
use Rattle.lc_model.specs.Kept.Call.{ServicesNow, with_at, new_sender, sent_by}
use Rattle.lc_model.specs.Kept.Executive.{seat_count, joined_now}
use Rattle.lc_model.specs.Services.Events.{counts_with, Sender, EventService, Origin, IsEventService, first_events, sender_named, sender_at, with_events, registered_at, unregistered_at, commanded, event_asked}
use Rattle.lc_model.specs.Services.EventCalls.{EventCall, HasFourTypes, EventHistory, called, happened, all_after, first_history, service_of}

-- ---- each call keeps the invariant

-- Law: new services keep the invariant.
abbrev pub FirstIsService : Type 0
FirstIsService = IsEventService first_events

-- Law: `register` keeps the invariant.
abbrev pub RegisteringKeeps : Type 0
RegisteringKeeps = (seat : ℕ) (name : Name) (service : EventService) → seat < seat_count → IsEventService service →
    IfOk (registered_at seat name service) IsEventService

-- Law: `unregister` keeps the invariant.
abbrev pub UnregisteringKeeps : Type 0
UnregisteringKeeps = (seat : ℕ) (service : EventService) → IsEventService service → IfOk (unregistered_at seat service) IsEventService

-- Law: `set_filter`, `reset_filters` and `set_types` keep the invariant.
abbrev pub CommandsKeep : Type 0
CommandsKeep = (name : Name) (item : LogItem) (service : EventService) → IsEventService service → IfOk (commanded name item service) IsEventService

-- Law: `send` keeps the invariant.
abbrev pub EventsKeep : Type 0
EventsKeep = (origin : Origin) (moment : Moment) (id : ℕ) (kind : EventKind) (text : List ℕ) (service : EventService) → IsEventService service →
    IsEventService (event_asked origin moment id kind text service).0

-- Law: any change of a registered sender's types and filters keeps the invariant.
abbrev pub ChangesKeep : Type 0
ChangesKeep = (origin : Origin) (sender : Sender) (events : EventState) (service : EventService) → IsEventService service →
    sender_at origin service ≡ Some sender → IsEventService (with_events origin sender events service)

-- ---- each call by name, as in the host in numbers

-- Law: after `register` the name has no filters and all types but debug; every other name keeps its own.
abbrev pub RegisteringByName : Type 0
RegisteringByName = (seat : ℕ) (name : Name) (service : EventService) → seat < seat_count → IsEventService service →
    IfOk (registered_at seat name service) (λ after. sender_named after ≡ with_at name (Some new_sender) (sender_named service))

-- Law: after `unregister` the name has no types and filters; every other name keeps its own.
abbrev pub UnregisteringByName : Type 0
UnregisteringByName = (seat : ℕ) (sender : Sender) (service : EventService) → IsEventService service → sender_at (Some seat) service ≡ Some sender →
    IfOk (unregistered_at seat service) (λ after. sender_named after ≡ with_at sender.name None (sender_named service))

-- Law: a command that is not refused changes the sender that it names; every other name keeps its own.
abbrev pub CommandsByName : Type 0
CommandsByName = (name : Name) (item : LogItem) (service : EventService) →
    (commanded name item service >>= (λ after. Ok (sender_named after)))
    ≡ (found (sender_named service name) not_registered >>= (λ events. joined_now item events >>= (λ after. Ok (with_at name (Some after) (sender_named service)))))

-- Law: a sender's event is chosen and sent as in the host in numbers, with the same packet.
abbrev pub EventsByName : (Image : Type 0) → Type 0
EventsByName Image = (origin : Origin) (sender : Sender) (moment : Moment) (id : ℕ) (kind : EventKind) (text : List ℕ) (service : EventService)
    (services : ServicesNow Image) → IsEventService service → sender_at origin service ≡ Some sender → services.events ≡ sender_named service →
    services.counts event_mid ≡ service.sent →
    let step : EventService × Option (List ℕ) = event_asked origin moment id kind text service in
    sent_by moment sender.name (Event sender.name id kind text ∷ []) services
    ≡ (record services { events = sender_named step.0; counts = counts_with step.0.sent services.counts }, option_to_list step.1)

-- ---- each call by whole logs

-- Law: a call returns the same by stored numbers and by logs. An event is sent exactly if its sender's log since registration
-- chooses it, and its sequence count is the number of event packets sent before.
abbrev pub SameByLogs : Type 0
SameByLogs = (call : EventCall) (history : EventHistory) → HasFourTypes call →
    called call (service_of history) ≡ (service_of (happened call history).0, (happened call history).1)

-- Law: every list of calls, starting with new services, has the same results by stored numbers and by logs.
abbrev pub AllSameByLogs : Type 0
AllSameByLogs = (calls : List EventCall) → AllByRecursion HasFourTypes calls →
    all_after called calls first_events ≡ (service_of (all_after happened calls first_history).0, (all_after happened calls first_history).1)
