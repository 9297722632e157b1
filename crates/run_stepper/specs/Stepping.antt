-- A run record by record. This project's own.
use Rattle.std.specs.Prelude.{◌≡◌, ℕ, ◌<◌, ◌≤◌, Bool, false, List, [], ◌∷◌, ◌++◌, length, Option, Some, None, Result, Ok, Err, ⊤}
use Rattle.app_host.specs.Hosted.{Object}
use Rattle.flight_core.specs.declared.halt.Halt.{Halt}
use Rattle.flight_core.specs.declared.halt.Halt.TheVariants as halt
use Rattle.flight_core.specs.declared.error.RunError.{RunError}
use Rattle.flight_core.specs.declared.error.RunError.TheVariants as error
use Rattle.flight_core.specs.Compiled.{IsFirstRefused}
use Rattle.flight_core.specs.Feeding.{Feeding, HandlesOne, HasBegun, IsReady, feeding_of, fed_with}
use Rattle.flight_core.specs.Front.{part_of}
use Rattle.flight_core.specs.Records.{front_of, most_held}
use Rattle.flight_core.specs.Run.{IsOfProfile}
use Rattle.lc_model.specs.Device.{Sink}
use Rattle.lc_model.specs.Host.Schedule.{Schedule}
use Rattle.lc_model.specs.Host.Stream.{End, StreamEntry, records_of}
use Rattle.lc_model.specs.Host.Stream as stream
use Rattle.flight_profile.specs.Stock.{names_of, own_names}
use Rattle.flight_profile.specs.Members.{meaning_of}
use Rattle.run_stepper.specs.declared.error.CourseError.{CourseError}
use Rattle.run_stepper.specs.declared.error.CourseError.TheVariants.{Memory, Rules}
use Rattle.run_stepper.specs.declared.handled.Handled.{Handled}
use Rattle.run_stepper.specs.declared.handled.Handled.TheVariants.{Whole, NoRecord, Part}
use Rattle.run_stepper.specs.declared.stepping.Stepping.{Stepping}

-- its host, and the packets that the last record led to
abbrev pub host_in : Stepping → Feeding
host_in it = feeding_of meaning_of it.fed

abbrev pub written_by : Stepping → List ℕ
written_by it = it.written.bytes.items

-- the error of a run that did not begin: the first text that doesn't compile, or out of memory
abbrev pub refusal_of : RunError → CourseError
refusal_of (error.Compile text why) = Rules text why
refusal_of other = Memory

abbrev pub IsRefusal : List (List ℕ) → CourseError → Type 0
IsRefusal sources (Rules text why) = IsFirstRefused sources text why
IsRefusal sources Memory = ⊤

-- its state between two calls
abbrev pub IsAtRest : Stepping → Type 0
IsAtRest it = IsReady (host_in it)

-- these texts are compiled, and the host is new, with this profile's own applications in stock, under this schedule
pub record BeginsWith (sources : List (List ℕ)) (schedule : Schedule) (it : Feeding) : Type 0 where
  pub stock : List Object
  pub profile : IsOfProfile schedule stock
  pub names : names_of stock ≡ own_names
  pub begun : HasBegun sources stock it

-- ---- a record

-- the outcome, by the result of the host's call
abbrev pub told_of : Result (Option ℕ) Halt → Result Handled CourseError
told_of (Ok (Some total)) = Ok Whole
told_of (Ok None) = Ok Part
told_of (Err halt.NoRecord) = Ok NoRecord
told_of (Err (halt.Unsent sent)) = Err Memory
told_of (Err halt.Fault) = Err Memory
told_of (Err halt.Bound) = Err Memory

-- a sink that has taken these bytes; whether a write has failed, and whether one came after that
abbrev pub sink_with : (bytes : List ℕ) (failed retried : Bool) → Sink
sink_with bytes failed retried = record { gained = Some bytes; failed = failed; retried = retried }

-- the host handles the record in front of what it holds; the output is exactly what this record leads to
pub record HasHandled (old new : Feeding) (written : List ℕ) (result : Result Handled CourseError) : Type 0 where
  pub answer : Result (Option ℕ) Halt
  pub failed : Bool
  pub retried : Bool
  pub fails : Bool
  pub retries : Bool
  pub one : HandlesOne old new (sink_with [] failed retried) (sink_with written fails retries) answer
  pub told : result ≡ told_of answer

-- the host takes these bytes after those that it holds, and handles the record in front
abbrev pub HasStepped : List ℕ → Feeding → Feeding → List ℕ → Result Handled CourseError → Type 0
HasStepped bytes old = HasHandled (fed_with bytes old)

-- ---- a record by itself

-- the records of bytes that are exactly this record, by the definitions
abbrev pub one_record : StreamEntry → List StreamEntry × End
one_record entry = (entry ∷ [], stream.Whole)

-- the same without the held bytes
abbrev pub holding_none : Feeding → Feeding
holding_none it = record it { held = record it.held { bytes = [] } }

-- it is open, its stream had no fault so far, and it holds no more than a longest record and a piece
pub record GoesOn (it : Feeding) : Type 0 where
  pub is_open : it.host.is_closed ≡ false
  pub good : it.held.is_bad ≡ false
  pub few : length it.held.bytes ≤ most_held

-- A record is in front. The last record's bytes are exactly this record's, the other bytes are still held, and the call has the same
-- effect as that of a host that held nothing and took this record.
pub record HandlesRecord (old new : Feeding) (written : List ℕ) : Type 0 where
  pub entry : StreamEntry
  pub front : front_of old.held ≡ stream.Record entry new.held.bytes
  pub parts : old.held.bytes ≡ new.held.last ++ new.held.bytes
  pub own : records_of old.held.texts new.held.last ≡ one_record entry
  pub alone : HasStepped new.held.last (holding_none old) (holding_none new) written (Ok Whole)
  pub files : new.files ≡ old.files
  pub texts : new.held.texts ≡ old.held.texts
  pub goes_on : GoesOn new

-- no valid record is in front; the call has the same result as that of a host that held nothing and took these bytes
pub record MeetsNoRecord (old : Feeding) (written : List ℕ) : Type 0 where
  pub front : front_of old.held ≡ stream.NoRecord
  pub now : Feeding
  pub alone : HasStepped old.held.bytes (holding_none old) now written (Ok NoRecord)

-- less than a record is held, and nothing changes
pub record Waits (old new : Feeding) (written : List ℕ) : Type 0 where
  pub front : front_of old.held ≡ part_of old.held.bytes
  pub few : length old.held.bytes < 65547
  pub same : new ≡ old
  pub now : Feeding
  pub alone : HasStepped old.held.bytes (holding_none old) now written (Ok Part)

-- one of the three, by the outcome
abbrev pub HandlesAlone : Feeding → Feeding → List ℕ → Handled → Type 0
HandlesAlone old new written Whole = HandlesRecord old new written
HandlesAlone old new written NoRecord = MeetsNoRecord old written
HandlesAlone old new written Part = Waits old new written
