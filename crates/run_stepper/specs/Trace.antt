-- The packets that each record of a stream leads to, by the definitions. This project's own.
use Rattle.std.specs.Prelude.{◌≡◌, ℕ, zero, suc, ◌+◌, ◌&&◌, Bool, List, [], ◌∷◌, ◌++◌, drop, length, map, min, nat_le, nat_lt, slice_get, take, Option, Some, None, if◌then◌else◌}
use Rattle.std.specs.List.{AllByRecursion, concat, list_any}
use Rattle.std.specs.Option.{option_or}
use Rattle.lc_model.specs.declared.record.Moment.{Moment}
use Rattle.lc_model.specs.Bytes.{u16_at}
use Rattle.lc_model.specs.Packet.{length_offset, primary_header_size}
use Rattle.lc_model.specs.Tables.HalvesAndBytes.{as_bytes}
use Rattle.lc_model.specs.Tables.InForce.{layouts}
use Rattle.lc_model.specs.Tables.Interpretation.{FileMeanings}
use Rattle.lc_model.specs.Host.Run.{input_of}
use Rattle.lc_model.specs.Host.Schedule.{Schedule}
use Rattle.lc_model.specs.Host.Stream.{End, Whole, Bad, Truncated, StreamEntry, body_size, header_size, moment_of, records_of}
use Rattle.lc_model.specs.LimitChecker.Steps.{Point}
use Rattle.lc_model.specs.Kept.Summary.{LcOwn, Tally}
use Rattle.lc_model.specs.Kept.Executive.{Executive, Member, Written, first_executive, step_by, written_from}
use Rattle.host_refinement.specs.Keeping.{IsSpare}
use Rattle.host_refinement.specs.Statements.{executive_after}
use Rattle.rpn_compiler.specs.declared.files.TablePair.{TablePair}
use Rattle.app_host.specs.Shared.{on_board}
use Rattle.flight_core.specs.Brought.{meanings_of}
use Rattle.flight_core.specs.Compiled.{AreAllCompiled}
use Rattle.flight_profile.specs.Stock.{own_names}
use Rattle.flight_profile.specs.Checkers.{engine_by}
use Rattle.run_stepper.specs.declared.standing.RuleStanding.{RuleStanding}
use Rattle.run_stepper.specs.declared.standing.RuleStanding.TheVariants as standing
use Rattle.run_stepper.specs.declared.ending.Ending.{Ending}
use Rattle.run_stepper.specs.declared.ending.Ending.TheVariants as ended

-- the size of the record in front, by its header, or of the rest of the stream if that is shorter
abbrev pub size_in_front : List ℕ → ℕ
size_in_front bytes =
    if nat_lt (length bytes) header_size then length bytes else min (header_size + body_size bytes) (length bytes)

-- the moment of the record in front; second 0 if its header is cut short
abbrev pub moment_in : List ℕ → Moment
moment_in bytes = if nat_lt (length bytes) header_size then record { seconds = 0; subseconds = 0 } else moment_of bytes

-- a record's moment, and the packets that it led to, one after the other
pub record Part : Type 0 where
  pub moment : Moment
  pub packets : List ℕ

-- the packets that each record of a stream led to, and how the stream ended
pub record Traced : Type 0 where
  pub parts : List Part
  pub ending : Ending

-- some record was in one of these seconds
abbrev pub has_record : (first last : ℕ) → List Part → Bool
has_record first last parts = list_any (λ (part : Part). nat_le first part.moment.seconds && nat_le part.moment.seconds last) parts

-- the packets that each of these records calls for, by the host in numbers
unfoldable pub parts_from : FileMeanings (List ℕ) → Executive (List ℕ) → List StreamEntry → List Part
parts_from meanings e [] = []
parts_from meanings e (entry ∷ entries) =
    let step : Written (List ℕ) = step_by on_board entry.moment e (input_of meanings entry.contents) in
    record { moment = entry.moment; packets = concat step.1 } ∷ parts_from meanings step.0 entries

-- one after the other they are the output of the host in numbers over these records, as in the promise of a run
abbrev pub PartsAreTheOutput : Type 0
PartsAreTheOutput = (meanings : FileMeanings (List ℕ)) (e : Executive (List ℕ)) (entries : List StreamEntry) →
    concat (map (λ (part : Part). part.packets) (parts_from meanings e entries)) ≡ concat (written_from on_board e meanings entries)

-- how a stream ended, after this number of records
abbrev pub ending_by : ℕ → End → Ending
ending_by count Whole = ended.Whole count
ending_by count (Bad n) = ended.NoRecord n
ending_by count (Truncated n) = ended.Cut n

-- Each record of the stream, up to the first fault, led to the packets that the definitions call for, from a new host with the
-- files that these texts compile to and this profile's objects in stock. `now` is the objects and services after these records.
pub record HasRun (sources : List (List ℕ)) (schedule : Schedule) (stream : List ℕ) (t : Traced) (now : Executive (List ℕ)) : Type 0 where
  pub pairs : List TablePair
  pub compiled : AreAllCompiled sources pairs
  pub members : List Member
  pub profile : AllByRecursion (IsSpare (as_bytes layouts) schedule) members
  pub named : map (λ (member : Member). member.called) members ≡ own_names
  pub parts : t.parts ≡ parts_from (meanings_of pairs) (first_executive members) (records_of (length pairs) stream).0
  pub ends : t.ending ≡ ending_by (length t.parts) (records_of (length pairs) stream).1
  pub stands : now ≡ executive_after on_board (first_executive members) (meanings_of pairs) (records_of (length pairs) stream).0

-- the same for some objects and services after the records
abbrev pub IsTraced : List (List ℕ) → Schedule → List ℕ → Traced → Type 0
IsTraced sources schedule stream t = (now : Executive (List ℕ)) × HasRun sources schedule stream t now

-- ---- the state and last result of a rule

-- the engine of the lowest seat with a Limit Checker, if one runs
abbrev pub engine_at : Option Member → Option LcOwn
engine_at None = None
engine_at (Some member) = engine_by member.state

abbrev pub engine_in : List (Option Member) → Option LcOwn
engine_in [] = None
engine_in (place ∷ others) = option_or (engine_at place) (engine_in others)

-- the standing of a rule by its point, if there is one
abbrev pub standing_by : Option (Point Tally) → RuleStanding
standing_by None = standing.NoRule
standing_by (Some point) = standing.Stands point.state point.past.last

abbrev pub standing_in : Option LcOwn → ℕ → RuleStanding
standing_in None rule = standing.Stopped
standing_in (Some own) rule = standing_by (slice_get own.points rule)

-- ---- packet by packet

-- a packet of a run, with the number, from 0, and the moment of the record that led to it
pub record Arrived : Type 0 where
  pub place : ℕ
  pub moment : Moment
  pub packet : List ℕ

-- the size in bytes of the packet in front, by its header
abbrev pub packet_size : List ℕ → ℕ
packet_size bytes = u16_at bytes 4 + length_offset

-- the packet in front, if it is whole, and the packets of the rest
abbrev pub packets_by : (List ℕ → List (List ℕ)) → List ℕ → List (List ℕ)
packets_by others bytes =
    if nat_le primary_header_size (length bytes) && nat_le (packet_size bytes) (length bytes)
    then take (packet_size bytes) bytes ∷ others (drop (packet_size bytes) bytes) else []

-- at most this number of packets
unfoldable pub packets_within : ℕ → List ℕ → List (List ℕ)
packets_within zero bytes = []
packets_within (suc most) bytes = packets_by (packets_within most) bytes

-- the packets of bytes in which they stand one after the other
abbrev pub packets_in : List ℕ → List (List ℕ)
packets_in bytes = packets_within (length bytes) bytes

-- the packets of one record
abbrev pub arrived_by : ℕ → Part → List Arrived
arrived_by place part = map (λ packet. record { place = place; moment = part.moment; packet = packet }) (packets_in part.packets)

-- the packets of several records, the first of which has this number
abbrev pub arrived_from : ℕ → List Part → List Arrived
arrived_from place [] = []
arrived_from place (part ∷ parts) = arrived_by place part ++ arrived_from (place + 1) parts
