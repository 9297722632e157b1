-- A run as a list of steps, one for each record. This project's own.
use Rattle.std.specs.Prelude.{◌≡◌, ℕ, List, [], ◌∷◌, ◌++◌, length, map, Ok}
use Rattle.lc_model.specs.Host.Schedule.{Schedule}
use Rattle.lc_model.specs.Host.Stream.{records_of}
use Rattle.app_host.specs.Delivered.{executive_in}
use Rattle.flight_core.specs.Feeding.{Feeding}
use Rattle.run_stepper.specs.Stepping.{BeginsWith, HasStepped, one_record}
use Rattle.run_stepper.specs.Trace.{HasRun, Part, ending_by, moment_in}
use Rattle.run_stepper.specs.declared.ending.Ending.{Ending}
use Rattle.run_stepper.specs.declared.handled.Handled.TheVariants as handled

-- a handled record: its bytes, the host after it, and the packets that it led to
pub record Step : Type 0 where
  pub bytes : List ℕ
  pub host : Feeding
  pub written : List ℕ

-- the host handles these records, one by one
abbrev pub Went : Feeding → List Step → Feeding → Type 0
Went old [] new = old ≡ new
Went old (step ∷ steps) new = HasStepped step.bytes old step.host step.written (Ok handled.Whole) × Went step.host steps new

-- the bytes of all records, one after the other
abbrev pub bytes_of : List Step → List ℕ
bytes_of [] = []
bytes_of (step ∷ steps) = step.bytes ++ bytes_of steps

-- the packets that a record led to, with its moment
abbrev pub part_of : Step → Part
part_of step = record { moment = moment_in step.bytes; packets = step.written }

-- these are all records of the stream up to its first fault, by the definitions, with this number of texts: the bytes of each step are
-- exactly its record, and the run ends as the stream does
pub record AreItsRecords (texts : ℕ) (stream : List ℕ) (steps : List Step) (ending : Ending) : Type 0 where
  pub each : map (λ (step : Step). records_of texts step.bytes) steps ≡ map one_record (records_of texts stream).0
  pub ends : ending ≡ ending_by (length steps) (records_of texts stream).1

-- these steps are a run of these texts under this schedule over the stream, and `last` is the host after them
abbrev pub HaveRun : List (List ℕ) → Schedule → List ℕ → List Step → Ending → Feeding → Type 0
HaveRun sources schedule stream steps ending last =
    HasRun sources schedule stream (record { parts = map part_of steps; ending = ending }) (executive_in last.host)

-- a new host that handles the records of a stream has run over the stream: each record led to the packets that the definitions call
-- for
abbrev pub StepsAreARun : Type 0
StepsAreARun = (sources : List (List ℕ)) (schedule : Schedule) (stream : List ℕ) (first last : Feeding) (steps : List Step) (rest : List ℕ) (ending : Ending) →
    BeginsWith sources schedule first → Went first steps last → bytes_of steps ++ rest ≡ stream → AreItsRecords (length first.files) stream steps ending → HaveRun sources schedule stream steps ending last
