-- A run that is probed at lines of its script. This project's own.
use Rattle.std.specs.Prelude.{◌≡◌, ℕ, ◌<◌, ◌≤◌, List, [], ◌++◌, drop, false, length, map}
use Rattle.std.specs.List.{AllZip}
use Rattle.flight_core.specs.Compiled.{sources_of}
use Rattle.flight_core.specs.Feeding.{Feeding}
use Rattle.lc_model.specs.Host.Schedule.{Schedule}
use Rattle.scenarios.specs.Declarations.{Declarations}
use Rattle.run_account.specs.Account.{IsAccountOf, schedule_of}
use Rattle.run_account.specs.declared.account.RunAccount.{RunAccount}
use Rattle.run_stepper.specs.Places.{IsReached, end_behind, host_after}
use Rattle.run_stepper.specs.Stepping.{BeginsWith}
use Rattle.run_stepper.specs.Steps.{Step, bytes_of, part_of}
use Rattle.run_stepper.specs.Trace.{IsTraced, Traced}
use Rattle.run_stepper.specs.Watching.{GoesThrough}
use Rattle.scenario_trial.specs.declared.error.TrialError.{TrialError}
use Rattle.scenario_trial.specs.declared.error.TrialError.TheVariants as trial
use Rattle.scenario_trial.specs.declared.probe.Finding.{Finding}
use Rattle.scenario_trial.specs.declared.probing.Trial.{Trial}
use Rattle.scenario_trial.specs.declared.probing.TrialRun.{TrialRun}
use Rattle.scenario_trial.specs.Arrivals.{StandsThere, is_whole}
use Rattle.scenario_trial.specs.ProbedLine.{ProbedLine}
use Rattle.scenario_trial.specs.Probes.{AreFrom, end_in_front, finding_of, findings_before}
use Rattle.scenario_trial.specs.Untried.{IsNotRun}

-- ---- up to a record

-- Records of a stream were handled, these steps, by a host that was `start` before.
module _ (declared : Declarations) (stream : List ℕ) (start : Feeding) (steps : List Step) where
  -- A line found what holds after some records. If the stream goes on after these steps, the line is before the end of the next record.
  pub record IsProbed (line : ProbedLine) (finding : Finding) : Type 0 where
    pub count : ℕ
    pub reached : IsReached stream steps count line.place
    pub more : length (bytes_of steps) < length stream → line.place < end_behind stream steps count
    pub finds : finding ≡ finding_of declared (host_after start steps count) line

  -- The first of these lines have found something, and the others come after the end of the next record, or there are none.
  pub record AreProbed (lines : List ProbedLine) (findings : List Finding) : Type 0 where
    pub done : List ProbedLine
    pub left : List ProbedLine
    pub parts : lines ≡ done ++ left
    pub found : AllZip IsProbed done findings
    pub ascend : AreFrom 0 left
    pub late : (before : ℕ) → before ≤ length steps → AreFrom (end_behind stream steps before) left
    pub over : length stream ≤ length (bytes_of steps) → left ≡ []

-- what a run has of these steps
pub record HasProbed (it : Trial) (start : Feeding) (run : TrialRun) (steps : List Step) : Type 0 where
  pub place : run.place ≡ length (bytes_of steps)
  pub parts : run.trace.parts ≡ map part_of steps
  pub account : IsAccountOf run.account steps
  pub under : schedule_of run.account ≡ it.inputs.schedule.now
  pub probed : AreProbed it.declared.now it.stream.now start steps it.probes.now run.findings.items

-- a run that has nothing at first has these steps
pub record HasSeen (first it : Trial) (old new : TrialRun) (steps : List Step) : Type 0 where
  pub same : it ≡ first
  pub run : (start : Feeding) → HasProbed first start old [] → HasProbed first start new steps

-- what the next lines find on a host, up to the end of the record after this place
abbrev pub findings_there : Trial → (place : ℕ) → Feeding → List Finding → List Finding
findings_there it place now findings =
    findings_before (finding_of it.declared.now now) (end_in_front place (drop place it.stream.now)) (drop (length findings) it.probes.now)

-- ---- a whole run

-- a host that was `start` before went through the stream of a trial
pub record HasWatched (it : Trial) (start : Feeding) (run : TrialRun) : Type 0 where
  pub steps : List Step
  pub has : HasProbed it start run steps
  pub through : GoesThrough start it.stream.now steps run.trace.ending

-- A new host with these texts under this schedule went through the stream. These are its packets, and this is the account of its records.
pub record IsRunOver (sources : List (List ℕ)) (schedule : Schedule) (stream : List ℕ) (t : Traced) (account : RunAccount) : Type 0 where
  pub first : Feeding
  pub begins : BeginsWith sources schedule first
  pub steps : List Step
  pub through : GoesThrough first stream steps t.ending
  pub parts : t.parts ≡ map part_of steps
  pub counts : IsAccountOf account steps
  pub under : schedule_of account ≡ schedule

-- a line found what holds after all lines of the script before it
abbrev pub IsFoundThere : (sources : List (List ℕ)) (schedule : Schedule) (declared : Declarations) (script : List ℕ) → ProbedLine → Finding → Type 0
IsFoundThere sources schedule declared script line finding =
    StandsThere sources schedule declared script line.n line.rule finding.force finding.standing

-- the same for each line of a trial
abbrev pub AreFoundThere : Trial → List Finding → Type 0
AreFoundThere it findings =
    AllZip (IsFoundThere (sources_of it.inputs.texts.now) it.inputs.schedule.now it.declared.now it.script.now) it.probes.now findings

-- the run of a trial went over its stream
abbrev pub HasGoneOver : Trial → TrialRun → Type 0
HasGoneOver it run = IsRunOver (sources_of it.inputs.texts.now) it.inputs.schedule.now it.stream.now run.trace run.account

-- its packets are those that the definitions call for
abbrev pub HasTraced : Trial → TrialRun → Type 0
HasTraced it run = IsTraced (sources_of it.inputs.texts.now) it.inputs.schedule.now it.stream.now run.trace

-- a stream is not gone through: a text doesn't compile, the run stops before the stream's end, or want of memory
abbrev pub IsNotWhole : (sources : List (List ℕ)) (schedule : Schedule) (stream : List ℕ) → TrialError → Type 0
IsNotWhole sources schedule stream (trial.Stopped n) = (t : Traced) × IsTraced sources schedule stream t × (is_whole t.ending ≡ false)
IsNotWhole sources schedule stream error = IsNotRun sources error
