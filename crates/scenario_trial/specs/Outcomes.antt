-- What a trial comes to. This project's own.
use Rattle.std.specs.Prelude.{◌≡◌, ℕ, true, List, map, Ok}
use Rattle.std.specs.List.{AllByRecursion}
use Rattle.lc_model.specs.Host.Schedule.{Schedule}
use Rattle.rpn_compiler.specs.TextParts.{AreTextsOf}
use Rattle.rpn_compiler.specs.declared.rule_text.RuleText.{RuleText}
use Rattle.scenarios.specs.Declarations.{Declarations, AreDeclared, nothing_declared}
use Rattle.scenarios.specs.Plain.{PlainScript}
use Rattle.scenarios.specs.declared.force.ForceChange.{ForceChange}
use Rattle.stream_script.specs.Script.{script_in}
use Rattle.run_stepper.specs.Trace.{IsTraced, Traced}
use Rattle.scenario_trial.specs.declared.expectation_lines.Placed.{Placed}
use Rattle.scenario_trial.specs.declared.trial.JudgedRun.{JudgedRun}
use Rattle.scenario_trial.specs.declared.trial.TrialOutcome.{TrialOutcome}
use Rattle.scenario_trial.specs.Arrivals.{IsFound, IsJudged, arrivals_of, is_whole, placed_in}
use Rattle.scenario_trial.specs.Probing.{IsRunOver}
use Rattle.scenario_trial.specs.Reading.{PlacedExpected, expectations_in, silenced_in}
use Rattle.scenario_trial.specs.Settled.{IsSettled}
use Rattle.scenario_trial.specs.Warned.{IsWarnedBefore, state_warnings, warnings_of}

-- A plain script was run without its expectations to the end of its stream, and each of these expectations found how its rule stands.
pub record IsJudgedRun (sources : List (List ℕ)) (schedule : Schedule) (declared : Declarations) (plain : PlainScript) (expectations : List Placed) (run : JudgedRun) : Type 0 where
  pub stream : List ℕ
  pub says : script_in (silenced_in plain.script) ≡ Ok stream
  pub traced : IsTraced sources schedule stream run.trace
  pub whole : is_whole run.trace.ending ≡ true
  pub over : IsRunOver sources schedule stream run.trace run.account
  pub each : map placed_in run.judged.items ≡ expectations
  pub found : AllByRecursion (IsFound sources schedule declared (silenced_in plain.script)) run.judged.items

-- A plain script was tried: without its expectations it says a stream, the run over it goes to its end, and they are judged by what
-- each of that stream's records led to, by the definitions, where the rule texts are run over it. The outcome's account is that of the
-- same run.
pub record IsPlainTried (sources : List (List ℕ)) (schedule : Schedule) (texts : List RuleText) (declared : Declarations) (plain : PlainScript) (outcome : TrialOutcome) : Type 0 where
  pub expectations : List PlacedExpected
  pub expects : expectations_in plain.script ≡ Ok expectations
  pub stream : List ℕ
  pub says : script_in (silenced_in plain.script) ≡ Ok stream
  pub trace : Traced
  pub traced : IsTraced sources schedule stream trace
  pub whole : is_whole trace.ending ≡ true
  pub over : IsRunOver sources schedule stream trace outcome.account
  pub judged : IsJudged sources schedule declared (silenced_in plain.script) expectations (arrivals_of trace) outcome.tried
  pub warned : outcome.warnings.items ≡ warnings_of texts declared plain.lines judged.judged expectations trace.parts

-- A scenario was tried: the plain script that it is short for, in the words that the rule texts declare, and in which each command that
-- sets the state of a rule has that rule's number in the text in force at its line. The warnings of such lines come first.
pub record IsTried (sources : List (List ℕ)) (schedule : Schedule) (scenario : List ℕ) (outcome : TrialOutcome) : Type 0 where
  pub texts : List RuleText
  pub read : AreTextsOf sources texts
  pub declared : Declarations
  pub declares : AreDeclared sources nothing_declared declared
  pub plain : PlainScript
  pub changes : List ForceChange
  pub settled : IsSettled sources schedule declared scenario plain changes
  pub run : TrialOutcome
  pub tries : IsPlainTried sources schedule texts declared plain run
  pub warned : IsWarnedBefore (state_warnings texts declared plain.lines changes scenario) run outcome
