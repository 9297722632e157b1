-- Event services by seats: registered senders, and what each call returns and changes. Types and filters follow the cFE user's
-- guide (event services); seats and refusal numbers are this project's own.
use Rattle.std.specs.Prelude.{◌≡◌, ℕ, ◌+◌, ◌%◌, ◌<◌, Bool, false, ◌||◌, List, [], ◌∷◌, length, replicate, slice_index_or, slice_set, if◌then◌else◌, Option, Some, None, is_some, option_map, Result, Ok, ◌==◌}
use Rattle.std.specs.Option.{option_map_or}
use Rattle.std.specs.List.{position_from}
use Rattle.lc_model.specs.declared.record.Moment.{Moment}
use Rattle.lc_model.specs.declared.rule.EventKind.{EventKind}
use Rattle.lc_model.specs.Name.{Name, is_named, AreDistinct, host_name}
use Rattle.lc_model.specs.Packet.{event_mid, count_end}
use Rattle.lc_model.specs.Refusal.{Refusal, ◌>>=◌, refused, found, not_registered, sender_taken}
use Rattle.lc_model.specs.Events.Log.{LogItem, Requested}
use Rattle.lc_model.specs.Events.Outgoing.{event_packet}
use Rattle.lc_model.specs.Kept.Summary.{EventState}
use Rattle.lc_model.specs.Kept.Next.{next_chosen, events_after}
use Rattle.lc_model.specs.Kept.Call.{new_sender}
use Rattle.lc_model.specs.Kept.Executive.{seat_count, joined_now}

-- A registered sender: its name, and its types and filters.
pub record Sender : Type 0 where
  pub name : Name
  pub events : EventState

-- The event services: `HOST`'s types and filters, the sender of each seat, and the sequence count of event packets.
pub record EventService : Type 0 where
  pub host : EventState
  pub places : List (Option Sender)
  pub sent : ℕ

-- Only `HOST` is registered, and no event was sent.
abbrev pub first_events : EventService
first_events = record { host = new_sender; places = replicate seat_count None; sent = 0 }

-- All sequence counts, with `sent` for event packets.
abbrev pub counts_with : ℕ → (ℕ → ℕ) → ℕ → ℕ
counts_with sent counts mid = if mid == event_mid then sent else counts mid

-- ---- registered senders

-- Whether the seat's sender has this name.
abbrev pub is_sender : Name → Option Sender → Bool
is_sender name None = false
is_sender name (Some sender) = is_named name sender.name

-- The types and filters of the first sender with this name.
abbrev pub events_among : List (Option Sender) → Name → Option EventState
events_among [] name = None
events_among (None ∷ places) name = events_among places name
events_among (Some sender ∷ places) name = if is_named name sender.name then Some sender.events else events_among places name

-- The types and filters under a name, `HOST`'s or a seat's sender's.
abbrev pub sender_named : EventService → Name → Option EventState
sender_named service name = if is_named name host_name then Some service.host else events_among service.places name

-- Where an event comes from: `None` is `HOST`, else a seat.
abbrev pub Origin : Type 0
Origin = Option ℕ

-- The origin of a name, if it is registered.
abbrev pub origin_named : Name → EventService → Option Origin
origin_named name service = if is_named name host_name then Some None else option_map Some (position_from (is_sender name) 0 service.places)

-- The sender of an origin.
abbrev pub sender_at : Origin → EventService → Option Sender
sender_at None service = Some (record { name = host_name; events = service.host })
sender_at (Some seat) service = slice_index_or service.places seat None

-- The services with an origin's types and filters replaced.
abbrev pub with_events : Origin → Sender → EventState → EventService → EventService
with_events None sender events service = record service { host = events }
with_events (Some seat) sender events service =
    record service { places = slice_set service.places seat (Some (record { name = sender.name; events = events })) }

-- ---- the invariant between two calls

-- The names of all seats' senders.
abbrev pub names_of : List (Option Sender) → List Name
names_of [] = []
names_of (None ∷ places) = names_of places
names_of (Some sender ∷ places) = sender.name ∷ names_of places

-- Eight seats, no name twice (`HOST` included), and a sequence count below 16,384.
pub record IsEventService (service : EventService) : Type 0 where
  pub seats : length service.places ≡ seat_count
  pub names : AreDistinct (host_name ∷ names_of service.places)
  pub count : service.sent < count_end

-- ---- registering

-- `register`: a sender without filters and with all types but debug on; 103 if the seat or the name is taken.
abbrev pub registered_at : ℕ → Name → EventService → Result EventService Refusal
registered_at seat name service =
    if is_some (slice_index_or service.places seat None) || is_some (origin_named name service) then refused sender_taken
    else Ok (record service { places = slice_set service.places seat (Some (record { name = name; events = new_sender })) })

-- `unregister`: the sender and its filters are removed; 101 if the seat has no sender.
abbrev pub unregistered_at : ℕ → EventService → Result EventService Refusal
unregistered_at seat service =
    if is_some (slice_index_or service.places seat None) then Ok (record service { places = slice_set service.places seat None })
    else refused not_registered

-- ---- types and filters

-- `set_filter`, `reset_filters` and `set_types` for a named sender; 101 or 102.
abbrev pub commanded : Name → LogItem → EventService → Result EventService Refusal
commanded name item service = do
  origin ← found (origin_named name service) not_registered
  sender ← found (sender_at origin service) not_registered
  events ← joined_now item sender.events
  Ok (with_events origin sender events service)

-- ---- sending

-- The result of an event request: the sender's types and filters, the sequence count, and the packet if the event is sent.
pub record Asked : Type 0 where
  pub events : EventState
  pub sent : ℕ
  pub packet : Option (List ℕ)

-- An event request: it is sent if its type is on and its filter lets it through, and counted if its type is on; `sent` is the
-- sequence count before it.
abbrev pub asked_by : Sender → Moment → ℕ → EventKind → List ℕ → ℕ → Asked
asked_by sender moment id kind text sent = record {
  events = events_after (Requested id kind) sender.events;
  sent = if next_chosen id kind sender.events then (sent + 1) % count_end else sent;
  packet = if next_chosen id kind sender.events then Some (event_packet sent moment sender.name id kind text) else None;
}

-- The services after this request, and its packet.
abbrev pub accounted_at : Origin → Sender → Asked → EventService → EventService × Option (List ℕ)
accounted_at origin sender asked service = (record (with_events origin sender asked.events service) { sent = asked.sent }, asked.packet)

-- `send`: the services, and the packet if the event is sent. Nothing happens if the seat has no sender.
abbrev pub event_asked : Origin → Moment → ℕ → EventKind → List ℕ → EventService → EventService × Option (List ℕ)
event_asked origin moment id kind text service =
    option_map_or (λ (sender : Sender). accounted_at origin sender (asked_by sender moment id kind text service.sent) service)
    (sender_at origin service) (service, None)
