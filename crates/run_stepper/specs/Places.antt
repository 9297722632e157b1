-- What a run shows at a place of its stream: after how many records it is reached, and what stands there. This project's own.
use Rattle.std.specs.Prelude.{ℕ, zero, suc, ◌+◌, ◌<◌, ◌≤◌, List, [], ◌∷◌, drop, length, take}
use Rattle.lc_model.specs.Host.Schedule.{Schedule}
use Rattle.lc_model.specs.Kept.Executive.{Executive}
use Rattle.app_host.specs.Delivered.{executive_in}
use Rattle.flight_core.specs.Feeding.{Feeding}
use Rattle.run_stepper.specs.Stepping.{BeginsWith}
use Rattle.run_stepper.specs.Steps.{Step, bytes_of}
use Rattle.run_stepper.specs.Trace.{HasRun, Traced, size_in_front}
use Rattle.run_stepper.specs.Watching.{GoesThrough}
use Rattle.run_stepper.specs.declared.ending.Ending.{Ending}

-- the host after this many records of a run that began with `first`
abbrev pub host_after : Feeding → List Step → ℕ → Feeding
host_after first steps zero = first
host_after first [] (suc count) = first
host_after first (step ∷ steps) (suc count) = host_after step.host steps count

-- the length in bytes of this many records
abbrev pub length_before : List Step → ℕ → ℕ
length_before steps count = length (bytes_of (take count steps))

-- where the record after this many records of a stream ends, by its header
abbrev pub end_behind : List ℕ → List Step → ℕ → ℕ
end_behind stream steps count = length_before steps count + size_in_front (drop (length_before steps count) stream)

-- A place of a stream is reached after this many of these records: it is before the end of the next one, if one came, and was not
-- before the end of any earlier one.
pub record IsReached (stream : List ℕ) (steps : List Step) (count place : ℕ) : Type 0 where
  pub within : count ≤ length steps
  pub late : (before : ℕ) → before < count → end_behind stream steps before ≤ place
  pub early : count < length steps → place < end_behind stream steps count

-- the objects and services after a run of these texts under this schedule over these bytes
abbrev pub StandsBehind : List (List ℕ) → Schedule → List ℕ → Executive (List ℕ) → Type 0
StandsBehind sources schedule stream now = (t : Traced) × HasRun sources schedule stream t now

-- what a watched run shows at a place of its stream is what stands after the bytes before that place
abbrev pub RunsAreSeenThrough : Type 0
RunsAreSeenThrough = (sources : List (List ℕ)) (schedule : Schedule) (stream : List ℕ) (first : Feeding) (steps : List Step) (ending : Ending) (count place : ℕ) →
    BeginsWith sources schedule first → GoesThrough first stream steps ending → IsReached stream steps count place →
    StandsBehind sources schedule (take place stream) (executive_in (host_after first steps count).host)
