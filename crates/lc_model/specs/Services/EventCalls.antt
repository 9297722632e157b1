-- Lists of calls of the event services, over stored numbers and over whole logs: each sender's log since its registration, and
-- all event packets sent. From the cFE user's guide, event services; seats and refusal numbers are this project's own.
use Rattle.std.specs.Prelude.{ℕ, ◌%◌, ◌<◌, Bool, false, ◌||◌, List, [], ◌∷◌, map, length, replicate, slice_index_or, slice_set, if◌then◌else◌, Option, Some, None, is_some, option_map, Result, Ok, Err, ⊤}
use Rattle.std.specs.Option.{option_map_or}
use Rattle.std.specs.List.{position_from}
use Rattle.lc_model.specs.declared.record.Moment.{Moment}
use Rattle.lc_model.specs.declared.rule.EventKind.{EventKind}
use Rattle.lc_model.specs.Name.{Name, is_named, host_name}
use Rattle.lc_model.specs.Refusal.{Refusal, ◌>>=◌, refused, found, not_registered, sender_taken}
use Rattle.lc_model.specs.Events.Log.{Log, LogItem, Requested, FilterSet, FiltersReset, TypesSet, chosen, joined, sets_of_types}
use Rattle.lc_model.specs.Events.Outgoing.{event_packet}
use Rattle.lc_model.specs.Kept.Summary.{event_state}
use Rattle.lc_model.specs.Kept.Executive.{seat_count}
use Rattle.lc_model.specs.Services.Events.{Sender, EventService, Origin, registered_at, unregistered_at, commanded, event_asked}
use Rattle.lc_model.specs.Packet.{count_end}

-- A call of the event services.
pub data EventCall : Type 0 where
  Register : (seat : ℕ) (name : Name) → EventCall
  Unregister : (seat : ℕ) → EventCall
  Send : (origin : Origin) (moment : Moment) (id : ℕ) (kind : EventKind) (text : List ℕ) → EventCall
  SetFilter : (name : Name) (id mask : ℕ) → EventCall
  ResetFilters : (name : Name) → EventCall
  SetTypes : (name : Name) (bits : ℕ) (on : Bool) → EventCall

-- The result of a call: the packet if one is sent, or a refusal.
abbrev pub Answer : Type 0
Answer = Result (Option (List ℕ)) Refusal

-- A set of types has four bits.
abbrev pub HasFourTypes : EventCall → Type 0
HasFourTypes (SetTypes name bits on) = bits < sets_of_types
HasFourTypes call = ⊤

-- The services after a call that may be refused, and its result; a refused call changes nothing.
abbrev pub unless_refused : {A : Type 0} → A → Result A Refusal → A × Answer
unless_refused old (Ok new) = (new, Ok None)
unless_refused old (Err refusal) = (old, Err refusal)

-- The services after a call of `send`, and its result.
abbrev pub with_packet : {A : Type 0} → A × Option (List ℕ) → A × Answer
with_packet step = (step.0, Ok step.1)

-- The services after these calls, and their results in order.
abbrev pub all_after : {A : Type 0} → (EventCall → A → A × Answer) → List EventCall → A → A × List Answer
all_after after [] a = (a, [])
all_after {A} after (call ∷ calls) a =
    let first : A × Answer = after call a in
    let others : A × List Answer = all_after after calls first.0 in
    (others.0, first.1 ∷ others.1)

-- ---- over stored numbers

-- The services after a call, and its result.
abbrev pub called : EventCall → EventService → EventService × Answer
called (Register seat name) service = unless_refused service (registered_at seat name service)
called (Unregister seat) service = unless_refused service (unregistered_at seat service)
called (Send origin moment id kind text) service = with_packet (event_asked origin moment id kind text service)
called (SetFilter name id mask) service = unless_refused service (commanded name (FilterSet id mask) service)
called (ResetFilters name) service = unless_refused service (commanded name FiltersReset service)
called (SetTypes name bits on) service = unless_refused service (commanded name (TypesSet bits on) service)

-- ---- over whole logs

-- A registered sender and its log since then.
pub record Remembered : Type 0 where
  pub name : Name
  pub log : Log

-- `HOST`'s log, the sender of each seat, and all event packets sent, the newest first.
pub record EventHistory : Type 0 where
  pub host : Log
  pub places : List (Option Remembered)
  pub sent : List (List ℕ)

-- Only `HOST` is registered, and all logs are empty.
abbrev pub first_history : EventHistory
first_history = record { host = []; places = replicate seat_count None; sent = [] }

-- Whether the seat's sender has this name.
abbrev pub is_remembered : Name → Option Remembered → Bool
is_remembered name None = false
is_remembered name (Some sender) = is_named name sender.name

-- The origin of a name, if it is registered.
abbrev pub origin_in : Name → EventHistory → Option Origin
origin_in name history = if is_named name host_name then Some None else option_map Some (position_from (is_remembered name) 0 history.places)

-- The sender of an origin.
abbrev pub remembered_at : Origin → EventHistory → Option Remembered
remembered_at None history = Some (record { name = host_name; log = history.host })
remembered_at (Some seat) history = slice_index_or history.places seat None

-- The history with an origin's log replaced.
abbrev pub with_log_at : Origin → Remembered → Log → EventHistory → EventHistory
with_log_at None sender log history = record history { host = log }
with_log_at (Some seat) sender log history =
    record history { places = slice_set history.places seat (Some (record { name = sender.name; log = log })) }

-- `register`: the seat gets an empty log; 103 if the seat or the name is taken.
abbrev pub begun_at : ℕ → Name → EventHistory → Result EventHistory Refusal
begun_at seat name history =
    if is_some (slice_index_or history.places seat None) || is_some (origin_in name history) then refused sender_taken
    else Ok (record history { places = slice_set history.places seat (Some (record { name = name; log = [] })) })

-- `unregister`: the seat's log is gone; 101 if the seat has no sender.
abbrev pub ended_at : ℕ → EventHistory → Result EventHistory Refusal
ended_at seat history =
    if is_some (slice_index_or history.places seat None) then Ok (record history { places = slice_set history.places seat None })
    else refused not_registered

-- A command is added to the log of the named sender; 101 or 102.
abbrev pub joined_at : Name → LogItem → EventHistory → Result EventHistory Refusal
joined_at name item history = do
  origin ← found (origin_in name history) not_registered
  sender ← found (remembered_at origin history) not_registered
  log ← joined item sender.log
  Ok (with_log_at origin sender log history)

-- An event request is added to its sender's log, and sent if the log before it chooses the event; its sequence count is the
-- number of event packets sent before, modulo 16,384.
abbrev pub sent_by_log : Origin → Remembered → Moment → ℕ → EventKind → List ℕ → EventHistory → EventHistory × Option (List ℕ)
sent_by_log origin sender moment id kind text history =
    let after : EventHistory = with_log_at origin sender (Requested id kind ∷ sender.log) history in
    let packet : List ℕ = event_packet (length history.sent % count_end) moment sender.name id kind text in
    if chosen id kind sender.log then (record after { sent = packet ∷ history.sent }, Some packet) else (after, None)

-- `send`: an event request of an origin. Nothing happens if the seat has no sender.
abbrev pub asked_at : Origin → Moment → ℕ → EventKind → List ℕ → EventHistory → EventHistory × Option (List ℕ)
asked_at origin moment id kind text history =
    option_map_or (λ (sender : Remembered). sent_by_log origin sender moment id kind text history) (remembered_at origin history) (history, None)

-- The history after a call, and its result.
abbrev pub happened : EventCall → EventHistory → EventHistory × Answer
happened (Register seat name) history = unless_refused history (begun_at seat name history)
happened (Unregister seat) history = unless_refused history (ended_at seat history)
happened (Send origin moment id kind text) history = with_packet (asked_at origin moment id kind text history)
happened (SetFilter name id mask) history = unless_refused history (joined_at name (FilterSet id mask) history)
happened (ResetFilters name) history = unless_refused history (joined_at name FiltersReset history)
happened (SetTypes name bits on) history = unless_refused history (joined_at name (TypesSet bits on) history)

-- ---- stored numbers from logs

-- The stored sender of a log.
abbrev pub sender_of : Remembered → Sender
sender_of sender = record { name = sender.name; events = event_state sender.log }

-- The stored services of a history.
abbrev pub service_of : EventHistory → EventService
service_of history = record {
  host = event_state history.host;
  places = map (option_map sender_of) history.places;
  sent = length history.sent % count_end;
}
