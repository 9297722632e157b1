-- The event services in numbers are those of whole logs.
use Rattle.std.proofs.Common.{◌≡◌, ℕ, zero, suc, ◌+◌, ◌%◌, Bool, true, false, ◌||◌, List, [], ◌∷◌, length, map, refl, ap, sym, ◌∙◌, arith, Option, Some, None, is_some, option_map, Result, Ok, Err, if◌then◌else◌, cond}
use Rattle.std.specs.Prelude.{slice_index_or, slice_set}
use Rattle.std.specs.Option.{option_map_or}
use Rattle.std.specs.List.{position_from, AllByRecursion}
use Rattle.std.proofs.Math.Nat.{mod-add-mod}
use Rattle.lc_model.specs.declared.record.Moment.{Moment}
use Rattle.lc_model.specs.declared.rule.EventKind.{EventKind}
use Rattle.lc_model.specs.Name.{Name, is_named, host_name}
use Rattle.lc_model.specs.Refusal.{Refusal, ◌>>=◌, found, refused}
use Rattle.lc_model.specs.Events.Log.{Log, LogItem, Requested, FilterSet, FiltersReset, TypesSet, chosen, joined, filtered_ids, is_full_for}
use Rattle.lc_model.specs.Events.Outgoing.{event_packet}
use Rattle.lc_model.specs.Kept.Summary.{EventState, event_state}
use Rattle.lc_model.specs.Kept.Executive.{joined_now}
use Rattle.lc_model.specs.Services.Events.{Sender, EventService, Origin, is_sender, origin_named, sender_at, with_events, registered_at, unregistered_at, commanded, asked_by, accounted_at, event_asked}
use Rattle.lc_model.specs.Services.EventCalls.{EventCall, Register, Unregister, Send, SetFilter, ResetFilters, SetTypes, HasFourTypes, Answer, unless_refused, with_packet, all_after, called, happened, Remembered, EventHistory, first_history, is_remembered, origin_in, remembered_at, with_log_at, begun_at, ended_at, joined_at, sent_by_log, asked_at, sender_of, service_of}
use Rattle.lc_model.specs.Laws.Events.{IsOfFourTypes}
use Rattle.lc_model.specs.Laws.Senders.{SameByLogs, AllSameByLogs}
use Rattle.lc_model.proofs.Events.LogLaws.{same_choice, another_item, same_fullness}

-- ---- places

kept : Option Remembered → Option Sender
kept o = option_map sender_of o

at_place : (places : List (Option Remembered)) (k : ℕ) → slice_index_or (map (option_map sender_of) places) k None ≡ option_map sender_of (slice_index_or places k None)
at_place [] k = refl
at_place (place ∷ places) zero = refl
at_place (place ∷ places) (suc k) = at_place places k

set_place : (places : List (Option Remembered)) (k : ℕ) (x : Option Remembered) →
    slice_set (map (option_map sender_of) places) k (option_map sender_of x) ≡ map (option_map sender_of) (slice_set places k x)
set_place [] k x = refl
set_place (place ∷ places) zero x = refl
set_place (place ∷ places) (suc k) x = ap (λ l. option_map sender_of place ∷ l) (set_place places k x)

same_test : (name : Name) (place : Option Remembered) → is_sender name (option_map sender_of place) ≡ is_remembered name place
same_test name None = refl
same_test name (Some sender) = refl

same_position : (name : Name) (i : ℕ) (places : List (Option Remembered)) →
    position_from (is_sender name) i (map (option_map sender_of) places) ≡ position_from (is_remembered name) i places
same_position name i [] = refl
same_position name i (place ∷ places) =
    (λ j. cond (same_test name place j) (Some i) (same_position name (i + 1) places j))

same_origin : (name : Name) (history : EventHistory) → origin_named name (service_of history) ≡ origin_in name history
same_origin name history = ap (λ (o : Option ℕ). if is_named name host_name then Some None else option_map Some o) (same_position name 0 history.places)

same_sender : (origin : Origin) (history : EventHistory) → sender_at origin (service_of history) ≡ option_map sender_of (remembered_at origin history)
same_sender None history = refl
same_sender (Some seat) history = at_place history.places seat

is_some_kept : (o : Option Remembered) → is_some (option_map sender_of o) ≡ is_some o
is_some_kept None = refl
is_some_kept (Some sender) = refl

-- another log of a place's sender
same_with : (origin : Origin) (sender : Remembered) (log : Log) (history : EventHistory) →
    with_events origin (sender_of sender) (event_state log) (service_of history) ≡ service_of (with_log_at origin sender log history)
same_with None sender log history = refl
same_with (Some seat) sender log history =
    ap (λ places. record { host = event_state history.host; places = places; sent = length history.sent % 16384 })
    (set_place history.places seat (Some (record { name = sender.name; log = log })))

-- ---- answers

-- an answer in numbers, by the one with logs
abbrev numbered : Result EventHistory Refusal → Result EventService Refusal
numbered (Ok history) = Ok (service_of history)
numbered (Err refusal) = Err refusal

same_answer : (history : EventHistory) (r : Result EventHistory Refusal) →
    unless_refused (service_of history) (numbered r) ≡ (service_of (unless_refused history r).0, (unless_refused history r).1)
same_answer history (Ok after) = refl
same_answer history (Err refusal) = refl

same_registered : (seat : ℕ) (name : Name) (history : EventHistory) → registered_at seat name (service_of history) ≡ numbered (begun_at seat name history)
same_registered seat name history =
    (λ i. if is_some_place i || is_some (same_origin name history i) then refused 103
    else Ok (record { host = event_state history.host; places = set_place history.places seat (Some (record { name = name; log = [] })) i; sent = length history.sent % 16384 }))
    ∙ by_test (is_some (slice_index_or history.places seat None) || is_some (origin_in name history))
  where
    is_some_place : is_some (slice_index_or (map (option_map sender_of) history.places) seat None) ≡ is_some (slice_index_or history.places seat None)
    is_some_place = ap (λ (o : Option Sender). is_some o) (at_place history.places seat) ∙ is_some_kept (slice_index_or history.places seat None)

    by_test : (t : Bool) →
        (if t then refused 103 else Ok (service_of (record history { places = slice_set history.places seat (Some (record { name = name; log = [] })) })))
        ≡ numbered (if t then refused 103 else Ok (record history { places = slice_set history.places seat (Some (record { name = name; log = [] })) }))
    by_test true = refl
    by_test false = refl

same_unregistered : (seat : ℕ) (history : EventHistory) → unregistered_at seat (service_of history) ≡ numbered (ended_at seat history)
same_unregistered seat history =
    (λ i. if is_some_place i then Ok (record { host = event_state history.host; places = set_place history.places seat None i; sent = length history.sent % 16384 }) else refused 101)
    ∙ by_test (is_some (slice_index_or history.places seat None))
  where
    is_some_place : is_some (slice_index_or (map (option_map sender_of) history.places) seat None) ≡ is_some (slice_index_or history.places seat None)
    is_some_place = ap (λ (o : Option Sender). is_some o) (at_place history.places seat) ∙ is_some_kept (slice_index_or history.places seat None)

    by_test : (t : Bool) →
        (if t then Ok (service_of (record history { places = slice_set history.places seat None })) else refused 101)
        ≡ numbered (if t then Ok (record history { places = slice_set history.places seat None }) else refused 101)
    by_test true = refl
    by_test false = refl

-- ---- commands

-- what joins a log, in numbers
abbrev pub logged : Result Log Refusal → Result EventState Refusal
logged (Ok log) = Ok (event_state log)
logged (Err refusal) = Err refusal

pub same_joined : (item : LogItem) (log : Log) → IsOfFourTypes item → joined_now item (event_state log) ≡ logged (joined item log)
same_joined (Requested id kind) log four = ap Ok (another_item (Requested id kind) log four)
same_joined FiltersReset log four = ap Ok (another_item FiltersReset log four)
same_joined (TypesSet bits on) log four = ap Ok (another_item (TypesSet bits on) log four)
same_joined (FilterSet id mask) log four =
    (λ i. if same_fullness id log i then refused 102 else Ok (another_item (FilterSet id mask) log four i)) ∙ by_test (is_full_for id (filtered_ids log))
  where
    by_test : (t : Bool) → (if t then refused 102 else Ok (event_state (FilterSet id mask ∷ log))) ≡ logged (if t then refused 102 else Ok (FilterSet id mask ∷ log))
    by_test true = refl
    by_test false = refl

same_commanded : (name : Name) (item : LogItem) (history : EventHistory) → IsOfFourTypes item → commanded name item (service_of history) ≡ numbered (joined_at name item history)
same_commanded name item history four =
    ap (λ (o : Option Origin). found o 101 >>= (λ origin. found (sender_at origin (service_of history)) 101 >>= (λ sender. joined_now item sender.events
    >>= (λ events. Ok (with_events origin sender events (service_of history)))))) (same_origin name history)
    ∙ by_origin (origin_in name history)
  where
    by_log : (origin : Origin) (sender : Remembered) (r : Result Log Refusal) →
        (logged r >>= (λ events. Ok (with_events origin (sender_of sender) events (service_of history))))
        ≡ numbered (r >>= (λ log. Ok (with_log_at origin sender log history)))
    by_log origin sender (Ok log) = ap Ok (same_with origin sender log history)
    by_log origin sender (Err refusal) = refl

    by_sender : (origin : Origin) (o : Option Remembered) →
        (found (option_map sender_of o) 101 >>= (λ sender. joined_now item sender.events >>= (λ events. Ok (with_events origin sender events (service_of history)))))
        ≡ numbered (found o 101 >>= (λ sender. joined item sender.log >>= (λ log. Ok (with_log_at origin sender log history))))
    by_sender origin None = refl
    by_sender origin (Some sender) =
        ap (λ (r : Result EventState Refusal). r >>= (λ events. Ok (with_events origin (sender_of sender) events (service_of history)))) (same_joined item sender.log four)
        ∙ by_log origin sender (joined item sender.log)

    by_origin : (o : Option Origin) →
        (found o 101 >>= (λ origin. found (sender_at origin (service_of history)) 101 >>= (λ sender. joined_now item sender.events
        >>= (λ events. Ok (with_events origin sender events (service_of history))))))
        ≡ numbered (found o 101 >>= (λ origin. found (remembered_at origin history) 101 >>= (λ sender. joined item sender.log >>= (λ log. Ok (with_log_at origin sender log history)))))
    by_origin None = refl
    by_origin (Some origin) =
        ap (λ (o : Option Sender). found o 101 >>= (λ sender. joined_now item sender.events >>= (λ events. Ok (with_events origin sender events (service_of history)))))
        (same_sender origin history)
        ∙ by_sender origin (remembered_at origin history)

-- ---- events

same_asked : (origin : Origin) (moment : Moment) (id : ℕ) (kind : EventKind) (text : List ℕ) (history : EventHistory) →
    event_asked origin moment id kind text (service_of history)
    ≡ (service_of (asked_at origin moment id kind text history).0, (asked_at origin moment id kind text history).1)
same_asked origin moment id kind text history =
    ap (λ (o : Option Sender). option_map_or (λ (s : Sender). accounted_at origin s (asked_by s moment id kind text (length history.sent % 16384)) (service_of history)) o (service_of history, None))
    (same_sender origin history)
    ∙ by_sender (remembered_at origin history)
  where
    after : Remembered → EventHistory
    after sender = with_log_at origin sender (Requested id kind ∷ sender.log) history

    packet : Remembered → List ℕ
    packet sender = event_packet (length history.sent % 16384) moment sender.name id kind text

    both : EventHistory × Option (List ℕ) → EventService × Option (List ℕ)
    both step = (service_of step.0, step.1)

    -- the services with these types and filters, and a packet more where one was sent
    in_numbers : EventService → Bool → Remembered → EventService × Option (List ℕ)
    in_numbers changed t sender =
        (record changed { sent = if t then (length history.sent % 16384 + 1) % 16384 else length history.sent % 16384 }, if t then Some (packet sender) else None)

    kept_sent : (o : Origin) (sender : Remembered) (log : Log) (h : EventHistory) → (with_log_at o sender log h).sent ≡ h.sent
    kept_sent None sender log h = refl
    kept_sent (Some seat) sender log h = refl

    by_choice : (sender : Remembered) (t : Bool) →
        in_numbers (service_of (after sender)) t sender
        ≡ both (if t then (record (after sender) { sent = packet sender ∷ history.sent }, Some (packet sender)) else (after sender, None))
    by_choice sender true =
        let more : (length history.sent % 16384 + 1) % 16384 ≡ suc (length history.sent) % 16384 =
        mod-add-mod (length history.sent) 16384 1 ∙ ap (λ n. n % 16384) (let next : length history.sent + 1 ≡ suc (length history.sent) = omega arith in next) in
        λ i. (record (service_of (after sender)) { sent = more i }, Some (packet sender))
    by_choice sender false =
        λ i. (record (service_of (after sender)) { sent = length (sym (kept_sent origin sender (Requested id kind ∷ sender.log) history) i) % 16384 }, None)

    by_sender : (o : Option Remembered) →
        option_map_or (λ (s : Sender). accounted_at origin s (asked_by s moment id kind text (length history.sent % 16384)) (service_of history)) (option_map sender_of o) (service_of history, None)
        ≡ both (option_map_or (λ (s : Remembered). sent_by_log origin s moment id kind text history) o (history, None))
    by_sender None = refl
    by_sender (Some sender) =
        (λ i. in_numbers ((ap (λ events. with_events origin (sender_of sender) events (service_of history)) (another_item (Requested id kind) sender.log tt)
        ∙ same_with origin sender (Requested id kind ∷ sender.log) history) i) (same_choice id kind sender.log i) sender)
        ∙ by_choice sender (chosen id kind sender.log)

-- ---- calls

pub same_by_logs : SameByLogs
same_by_logs (Register seat name) history four = ap (unless_refused (service_of history)) (same_registered seat name history) ∙ same_answer history (begun_at seat name history)
same_by_logs (Unregister seat) history four = ap (unless_refused (service_of history)) (same_unregistered seat history) ∙ same_answer history (ended_at seat history)
same_by_logs (Send origin moment id kind text) history four = ap (λ (step : EventService × Option (List ℕ)). with_packet step) (same_asked origin moment id kind text history)
same_by_logs (SetFilter name id mask) history four =
    ap (unless_refused (service_of history)) (same_commanded name (FilterSet id mask) history tt) ∙ same_answer history (joined_at name (FilterSet id mask) history)
same_by_logs (ResetFilters name) history four =
    ap (unless_refused (service_of history)) (same_commanded name FiltersReset history tt) ∙ same_answer history (joined_at name FiltersReset history)
same_by_logs (SetTypes name bits on) history four =
    ap (unless_refused (service_of history)) (same_commanded name (TypesSet bits on) history four) ∙ same_answer history (joined_at name (TypesSet bits on) history)

all_from : (calls : List EventCall) (history : EventHistory) → AllByRecursion HasFourTypes calls →
    all_after called calls (service_of history) ≡ (service_of (all_after happened calls history).0, (all_after happened calls history).1)
all_from [] history four = refl
all_from (call ∷ calls) history four =
    let here : EventHistory × Answer = happened call history in
    let first : called call (service_of history) ≡ (service_of here.0, here.1) = same_by_logs call history four.0 in
    ap (λ (step : EventService × Answer). let others : EventService × List Answer = all_after called calls step.0 in (others.0, step.1 ∷ others.1)) first
    ∙ ap (λ (others : EventService × List Answer). (others.0, here.1 ∷ others.1)) (all_from calls here.0 four.1)

pub all_same_by_logs : AllSameByLogs
all_same_by_logs calls four = all_from calls first_history four
