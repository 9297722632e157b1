-- What `HOST` itself does with a record, with applications of any kind: the event that it sends, stored files, event and table
-- services, and the seats. `HOST`'s event comes after all output of the called applications.
use Rattle.std.specs.Prelude.{◌≡◌, ℕ, ◌+◌, ◌*◌, ◌<◌, ◌≤◌, ◌⊎◌, nat_lt, Bool, true, false, List, [], ◌++◌, length, take, if◌then◌else◌, Option, Some, None, IfSome, option_to_list, Result, Ok, Err}
use Rattle.std.specs.Option.{option_map_or}
use Rattle.std.specs.List.{concat}
use Rattle.std.specs.Io.KnownBytes.{Appends}
use Rattle.lc_model.specs.declared.record.Body.{Body}
use Rattle.lc_model.specs.declared.record.Body.TheVariants as body
use Rattle.lc_model.specs.declared.record.Moment.{Moment}
use Rattle.lc_model.specs.Packet.{stream_fault, function_code, message_id, by_service}
use Rattle.lc_model.specs.Refusal.{Refusal}
use Rattle.lc_model.specs.Command.{event_command_in, table_command_in}
use Rattle.lc_model.specs.Events.Request.{Request, Event, Sequence, Housekeeping, bad_packet, file_stored, file_refused, event_services, table_services, executive_services, command_done, command_refused}
use Rattle.lc_model.specs.Kept.Executive.{tick_packet}
use Rattle.lc_model.specs.Services.Events.{EventService, event_asked}
use Rattle.lc_model.specs.Services.Tables.{TableService, file_put}
use Rattle.lc_model.specs.Services.Interface.{outgoing_room}
use Rattle.app_host.specs.declared.error.WriteFault.{WriteFault}
use Rattle.app_host.specs.Shared.{at_moment}
use Rattle.app_host.specs.Hosted.{Hosted}
use Rattle.app_host.specs.Heard.{HasHeard}
use Rattle.app_host.specs.Left.{HasGone}
use Rattle.app_host.specs.Obeyed.{events_by}
use Rattle.app_host.specs.ObeyedTables.{tables_by}
use Rattle.app_host.specs.Roster.{Roster, roster_of, Succession, succession_by}
use Rattle.app_host.specs.Turn.{Turn, without_comer, HasTurned}

-- ---- the response to a record

-- The response to a record. `request`: `HOST`'s event. `delivers`: whether packets are delivered; `passes`: the packet that is
-- published first. `leaves`: the seat whose object is retired; `changes`: the most calls of `retire` and `start`. `turn`: the
-- seat that is left, and the object that comes. `left`, `come`: the roster after the retirement, and after the start. `events`,
-- `tables`: these services before `HOST`'s event.
pub record Response : Type 0 where
  pub request : Option Request
  pub delivers : Bool
  pub passes : Option (List ℕ)
  pub leaves : Option ℕ
  pub changes : ℕ
  pub turn : Option Turn
  pub left : Roster
  pub come : Roster
  pub events : EventService
  pub tables : TableService

-- Packets are delivered, and `HOST` does nothing else.
abbrev pub handing_on : Hosted → Response
handing_on h = record {
  request = None;
  delivers = true;
  passes = None;
  leaves = None;
  changes = 0;
  turn = None;
  left = roster_of h;
  come = roster_of h;
  events = h.services.events;
  tables = h.services.tables;
}

-- `packet` is published and delivered, and `HOST` sends no event.
abbrev pub passing_on : List ℕ → Hosted → Response
passing_on packet h = record (handing_on h) { passes = Some packet }

-- `HOST` sends this event and does nothing else.
abbrev pub only_telling : Request → Hosted → Response
only_telling request h = record (handing_on h) { request = Some request; delivers = false }

-- A file is stored (event 2) or refused (event 3).
abbrev pub filing : Hosted → Result TableService Refusal → Response
filing h (Ok tables) = record (only_telling file_stored h) { tables = tables }
filing h (Err refusal) = only_telling (file_refused refusal) h

-- A command 0x1801: done (event 6) or refused (event 7).
abbrev pub obeying_events : List ℕ → Hosted → Result EventService Refusal → Response
obeying_events packet h (Ok events) = record (only_telling (command_done event_services (function_code packet)) h) { events = events }
obeying_events packet h (Err refusal) = only_telling (command_refused event_services refusal) h

-- A command 0x1804: done (event 4) or refused (event 5).
abbrev pub obeying_tables : List ℕ → Hosted → Result TableService Refusal → Response
obeying_tables packet h (Ok tables) = record (only_telling (command_done table_services (function_code packet)) h) { tables = tables }
obeying_tables packet h (Err refusal) = only_telling (command_refused table_services refusal) h

-- A command 0x1806: done (event 8), with at most one object retired and one started; or refused (event 9).
abbrev pub obeying_orders : List ℕ → Hosted → Result Succession Refusal → Response
obeying_orders packet h (Ok succession) =
    record (only_telling (command_done executive_services (function_code packet)) h) { leaves = succession.leaves; changes = 2; turn = Some (record { leaves = succession.leaves; comes = succession.comes }); left = succession.left; come = succession.come }
obeying_orders packet h (Err refusal) = only_telling (command_refused executive_services refusal) h

-- A packet without a fault: a command to a service, or a packet for the applications.
abbrev pub routed_to : List ℕ → Hosted → Response
routed_to packet h =
    by_service (message_id packet)
    (obeying_events packet h (events_by (event_command_in packet) h.services.events))
    (obeying_tables packet h (tables_by (table_command_in packet) h.services.tables))
    (obeying_orders packet h (succession_by packet (roster_of h)))
    (passing_on packet h)

-- The response to a packet; a bad one gives event 1.
abbrev pub response_to_packet : List ℕ → Hosted → Response
response_to_packet packet h = option_map_or (λ reason. only_telling (bad_packet reason) h) (stream_fault packet) (routed_to packet h)

-- The response to a record.
abbrev pub response_to : Body → Hosted → Response
response_to (body.Packet bytes) h = response_to_packet bytes.now h
response_to body.Tick h = passing_on tick_packet h
response_to (body.File name bytes) h = filing h (file_put name.now bytes.now h.services.tables)

-- ---- the bytes of `HOST`'s event

-- The event services after `HOST`'s request, and the bytes of its event packet; no bytes if types or filters hold it back.
abbrev pub asked_by_host : Moment → Option Request → EventService → EventService × List ℕ
asked_by_host moment None service = (service, [])
asked_by_host moment (Some (Event sender id kind text)) service =
    let asked : EventService × Option (List ℕ) = event_asked None moment id kind text service in
    (asked.0, concat (option_to_list asked.1))
asked_by_host moment (Some (Sequence number)) service = (service, [])
asked_by_host moment (Some (Housekeeping mode points)) service = (service, [])

-- ---- output

-- If no application was called, only `HOST`'s own work has changed the services: bus, sequence counts and seats stay.
pub record IsAlone (response : Response) (old new : Hosted) (theirs : List ℕ) (behind : EventService) : Type 0 where
  pub nothing : theirs ≡ []
  pub events : behind ≡ response.events
  pub tables : new.services.tables ≡ response.tables
  pub bus : new.services.bus ≡ old.services.bus
  pub counts : new.services.counts ≡ old.services.counts
  pub seats : new.seats ≡ old.seats

-- The called applications, if any, sent the bytes `theirs`, at most 65,536 a call, and left the event services `behind`. They
-- did not change `HOST`'s own types and filters, and the object that leaves a seat was retired.
pub record HasCalled (moment : Moment) (response : Response) (old new : Hosted) : Type 0 where
  pub theirs : List ℕ
  pub behind : EventService
  pub own : behind.host ≡ response.events.host
  pub few : length theirs ≤ outgoing_room * (new.calls + response.changes)
  pub none_given : response.delivers ≡ false → new.calls ≡ 0
  pub alone : new.calls + response.changes ≡ 0 → IsAlone response old new theirs behind
  pub heard : IfSome response.passes (λ packet. HasHeard packet moment old new theirs)
  pub gone : IfSome response.leaves (λ seat. HasGone seat old.seats (at_moment moment old.services))

-- No write failed: the output is `theirs`, then `HOST`'s event packet.
pub record RespondsWhole (moment : Moment) (response : Response) (old new : Hosted) (before now : Option (List ℕ)) : Type 0 where
  pub called : HasCalled moment response old new
  pub gains : Appends before now (called.theirs ++ (asked_by_host moment response.request called.behind).1)
  pub events : new.services.events ≡ (asked_by_host moment response.request called.behind).0
  pub files : new.services.tables.files ≡ response.tables.files
  pub roster : roster_of new ≡ response.come
  pub turned : IfSome response.turn (λ turn. HasTurned turn moment old new called.theirs called.behind)

-- A write failed after `sent` bytes. If these end inside `theirs`, `HOST` has not requested its event, and the object that was to
-- start may not have started.
pub record RespondsPart (moment : Moment) (response : Response) (sent : ℕ) (old new : Hosted) (before now : Option (List ℕ)) : Type 0 where
  pub called : HasCalled moment response old new
  pub fewer : sent < length (called.theirs ++ (asked_by_host moment response.request called.behind).1)
  pub gains : Appends before now (take sent (called.theirs ++ (asked_by_host moment response.request called.behind).1))
  pub events : new.services.events ≡ (if nat_lt sent (length called.theirs) then called.behind else (asked_by_host moment response.request called.behind).0)
  pub files : new.services.tables.files ≡ response.tables.files
  pub roster : (roster_of new ≡ response.come) ⊎ ((roster_of new ≡ response.left) × (sent < length called.theirs))
  pub turned : IfSome response.turn (λ turn. HasTurned turn moment old new called.theirs called.behind ⊎ (HasTurned (without_comer turn) moment old new called.theirs called.behind × (sent < length called.theirs)))

-- No write failed, and `total` is the number of bytes written.
pub record RespondsWithCount (moment : Moment) (response : Response) (total : ℕ) (old new : Hosted) (before now : Option (List ℕ)) : Type 0 where
  pub responds : RespondsWhole moment response old new before now
  pub count : total ≡ length (responds.called.theirs ++ (asked_by_host moment response.request responds.called.behind).1)

-- `RespondsWhole` if no write failed, else `RespondsPart`.
abbrev pub Responds : {A : Type 0} → Moment → Response → Hosted → Hosted → Option (List ℕ) → Option (List ℕ) → Result A WriteFault → Type 0
Responds moment response old new before now (Ok done) = RespondsWhole moment response old new before now
Responds moment response old new before now (Err fault) = RespondsPart moment response fault.sent old new before now

-- `RespondsWithCount` if no write failed, else `RespondsPart`.
abbrev pub RespondsCounted : Moment → Response → Hosted → Hosted → Option (List ℕ) → Option (List ℕ) → Result ℕ WriteFault → Type 0
RespondsCounted moment response old new before now (Ok total) = RespondsWithCount moment response total old new before now
RespondsCounted moment response old new before now (Err fault) = RespondsPart moment response fault.sent old new before now
