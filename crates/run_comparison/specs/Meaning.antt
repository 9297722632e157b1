-- What requests and events mean, without the names and numbers of rules. This project's own.
use Rattle.std.specs.Prelude.{ℕ, ◌+◌, Bool, true, false, not, ◌&&◌, ◌==◌, List, [], ◌∷◌, length, map, filter, take, drop, min, codes, bytes_eq, nat_le, Option, Some, None, if◌then◌else◌, option_map}
use Rattle.std.specs.Char.{is_ascii_digit}
use Rattle.std.specs.List.{filter_map, prefix_len}
use Rattle.lc_model.specs.declared.rule.EventKind.{EventKind}
use Rattle.lc_model.specs.Name.{lc_name}
use Rattle.packet_listing.specs.Told.{Told, told_in}
use Rattle.packet_listing.specs.Told as told
use Rattle.run_stepper.specs.Trace.{packets_in}
use Rattle.run_comparison.specs.declared.meaning.EventMeaning.{EventMeaning as HeldEvent}
use Rattle.run_comparison.specs.declared.meaning.Meaning.{Meaning as HeldMeaning}
use Rattle.run_comparison.specs.declared.meaning.Meaning.TheVariants as held
use Rattle.run_comparison.specs.declared.meaning.Sort.{Sort}
use Rattle.run_comparison.specs.declared.meaning.Sort.TheVariants as sort

-- a request by its sequence; an event by its sender, id and type, and its text before and after the number of a rule
pub data Meaning : Type 0 where
  Request : (sequence : ℕ) → Meaning
  Event : (sender : List ℕ) (id : ℕ) (kind : EventKind) (before after : List ℕ) → Meaning

-- the place of the last colon, counted on from `at`
abbrev pub last_colon : Option ℕ → ℕ → List ℕ → Option ℕ
last_colon found at [] = found
last_colon found at (byte ∷ text) = last_colon (if byte == 58 then Some at else found) (at + 1) text

-- where the number of a rule begins in the text of an event: in the Limit Checker's events 3 to 6 after `actionpoint `, in a rule's own
-- event after the last colon and ` AP = `; at the text's end if it is shorter
abbrev pub number_place : (sender : List ℕ) (id : ℕ) (text : List ℕ) → Option ℕ
number_place sender id text =
    if not (bytes_eq sender lc_name) then None
    else if nat_le 3 id && nat_le id 6 then Some (min 12 (length text))
    else if nat_le 1000 id then option_map (λ colon. min (colon + 7) (length text)) (last_colon None 0 text)
    else None

-- a text without the digits at its front
abbrev pub after_digits : List ℕ → List ℕ
after_digits text = drop (prefix_len is_ascii_digit text) text

abbrev pub event_cut : (sender : List ℕ) (id : ℕ) (kind : EventKind) (text : List ℕ) → Option ℕ → Meaning
event_cut sender id kind text None = Event sender id kind text []
event_cut sender id kind text (Some place) = Event sender id kind (take place text) (after_digits (drop place text))

abbrev pub meaning_by : Option Told → Option Meaning
meaning_by (Some (told.Request sequence)) = Some (Request sequence)
meaning_by (Some (told.Event moment sender id kind text)) = Some (event_cut sender id kind text (number_place sender id text))
meaning_by (Some (told.Housekeeping mode count rules)) = None
meaning_by None = None

-- what a packet means, if it is a request or an event
abbrev pub meaning_of : List ℕ → Option Meaning
meaning_of packet = meaning_by (told_in packet)

-- the program's meaning
abbrev pub event_held : HeldEvent → Meaning
event_held event = Event event.sender.now event.id event.kind event.before.now event.after.now

abbrev pub of_held : HeldMeaning → Meaning
of_held (held.Request sequence) = Request sequence
of_held (held.Event event) = event_held event

abbrev pub all_held : List HeldMeaning → List Meaning
all_held all = map of_held all

-- a meaning, if it is a request, or an event
abbrev pub wanted : Sort → Option Meaning → Option Meaning
wanted sort.Requests (Some (Request sequence)) = Some (Request sequence)
wanted sort.Events (Some (Event sender id kind before after)) = Some (Event sender id kind before after)
wanted sort.Requests (Some (Event sender id kind before after)) = None
wanted sort.Events (Some (Request sequence)) = None
wanted which None = None

abbrev pub meaning_in : Sort → List ℕ → Option Meaning
meaning_in which packet = wanted which (meaning_of packet)

-- what the requests, or the events, among packets mean that follow one another, in order
abbrev pub meanings_in : Sort → List ℕ → List Meaning
meanings_in which packets = filter_map (meaning_in which) (packets_in packets)
