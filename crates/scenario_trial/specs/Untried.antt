-- Why a scenario isn't tried. This project's own.
use Rattle.std.specs.Prelude.{◌≡◌, ℕ, ◌≤◌, false, List, find, Some, Ok, Err, ⊤}
use Rattle.lc_model.specs.Host.Schedule.{Schedule}
use Rattle.scenarios.specs.Declarations.{Declarations, AreDeclared, nothing_declared}
use Rattle.scenarios.specs.Error.{IsScenarioError}
use Rattle.scenarios.specs.Plain.{PlainScript, line_of, plain_in}
use Rattle.scenarios.specs.declared.force.ForceChange.{ForceChange}
use Rattle.scenarios.specs.declared.plain.Plain.{Plain}
use Rattle.scenarios.specs.declared.error.ScenarioError.{ScenarioError}
use Rattle.scenarios.specs.declared.error.ScenarioError.TheVariants as scenario
use Rattle.stream_script.specs.declared.error.ScriptError.{ScriptError}
use Rattle.stream_script.specs.declared.error.ScriptError.TheVariants as script
use Rattle.stream_script.specs.Script.{script_in}
use Rattle.run_stepper.specs.Stepping.{IsRefusal}
use Rattle.run_stepper.specs.Trace.{IsTraced, Traced}
use Rattle.run_stepper.specs.declared.error.CourseError.{CourseError}
use Rattle.run_stepper.specs.declared.error.CourseError.TheVariants as course
use Rattle.scenario_trial.specs.declared.error.TrialError.{TrialError}
use Rattle.scenario_trial.specs.declared.error.TrialError.TheVariants as trial
use Rattle.scenario_trial.specs.declared.expectation_lines.ReadError.{ReadError}
use Rattle.scenario_trial.specs.declared.expectation_lines.ReadError.TheVariants as reading
use Rattle.scenario_trial.specs.Arrivals.{has_no_rule, is_whole}
use Rattle.scenario_trial.specs.Reading.{PlacedExpected, expectations_in, silenced_in}
use Rattle.scenario_trial.specs.Settled.{IsGuess, IsGuessed}

-- ---- as a trial's

-- want of memory is one error, wherever it arose
abbrev pub of_scenario : ScenarioError → TrialError
of_scenario scenario.Memory = trial.Memory
of_scenario (scenario.Line n reason) = trial.Scenario (scenario.Line n reason)

abbrev pub of_reading : ReadError → TrialError
of_reading reading.Memory = trial.Memory
of_reading (reading.Line n fault) = trial.Expectation (reading.Line n fault)

abbrev pub of_script : ScriptError → TrialError
of_script script.Memory = trial.Memory
of_script (script.Line n reason) = trial.Script (script.Line n reason)

abbrev pub of_course : CourseError → TrialError
of_course course.Memory = trial.Memory
of_course (course.Rules text why) = trial.Rules text why

-- want of memory, or a writer that fails
abbrev pub IsOwn : TrialError → Type 0
IsOwn trial.Memory = ⊤
IsOwn trial.Write = ⊤
IsOwn other = ⊥

-- ---- at the scenario's line

-- an error of a plain script, whose lines these lines of the scenario say
abbrev pub script_error_at : List ℕ → ScriptError → ScriptError
script_error_at lines script.Memory = script.Memory
script_error_at lines (script.Line n reason) = script.Line (line_of lines n) reason

abbrev pub read_error_at : List ℕ → ReadError → ReadError
read_error_at lines reading.Memory = reading.Memory
read_error_at lines (reading.Line n fault) = reading.Line (line_of lines n) fault

-- ---- why

-- a script says no stream: at its first line that says nothing, by the scenario's line that says it
abbrev pub IsUnsaid : List ℕ → List ℕ → TrialError → Type 0
IsUnsaid text lines trial.Memory = ⊤
IsUnsaid text lines (trial.Script (script.Line n reason)) =
    (line : ℕ) × (script_in text ≡ Err (record { line = line; reason = reason })) × (n ≡ line_of lines line)
IsUnsaid text lines other = ⊥

-- a line of a script says no expectation: the first that is none, by the scenario's line that says it
abbrev pub IsUnexpected : List ℕ → List ℕ → TrialError → Type 0
IsUnexpected text lines trial.Memory = ⊤
IsUnexpected text lines (trial.Expectation (reading.Line n fault)) =
    (line : ℕ) × (expectations_in text ≡ Err (record { line = line; fault = fault })) × (n ≡ line_of lines line)
IsUnexpected text lines other = ⊥

-- rule texts aren't run: one doesn't compile, or want of memory
abbrev pub IsNotRun : List (List ℕ) → TrialError → Type 0
IsNotRun sources trial.Memory = ⊤
IsNotRun sources (trial.Rules number why) = IsRefusal sources (course.Rules number why)
IsNotRun sources other = ⊥

-- an expectation is about a rule that no text has: the first of these, by the scenario's line that says it
abbrev pub IsFirstOfNobody : Declarations → List PlacedExpected → List ℕ → ℕ → Type 0
IsFirstOfNobody declared expectations lines n =
    (placed : PlacedExpected) × (find (has_no_rule declared) expectations ≡ Some placed) × (n ≡ line_of lines placed.n)

abbrev pub IsOfNobody : Declarations → List PlacedExpected → List ℕ → TrialError → Type 0
IsOfNobody declared expectations lines (trial.NoRule n) = IsFirstOfNobody declared expectations lines n
IsOfNobody declared expectations lines other = ⊥

-- one of the expectations of a script is
abbrev pub AsksForNobody : Declarations → PlainScript → ℕ → Type 0
AsksForNobody declared plain n =
    (expectations : List PlacedExpected) × (expectations_in plain.script ≡ Ok expectations) × IsFirstOfNobody declared expectations plain.lines n

-- without its expectations a plain script says a stream, and the run over it stops before its end
pub record StopsEarly (sources : List (List ℕ)) (schedule : Schedule) (script : List ℕ) : Type 0 where
  pub stream : List ℕ
  pub says : script_in (silenced_in script) ≡ Ok stream
  pub trace : Traced
  pub traced : IsTraced sources schedule stream trace
  pub early : is_whole trace.ending ≡ false

-- a plain script isn't tried: one of its lines says no expectation, or one about a rule that no text has; without these it says no stream,
-- or the run over that stops early
abbrev pub IsPlainUntried : (sources : List (List ℕ)) (schedule : Schedule) → Declarations → PlainScript → TrialError → Type 0
IsPlainUntried sources schedule declared plain trial.Memory = ⊤
IsPlainUntried sources schedule declared plain trial.Write = ⊤
IsPlainUntried sources schedule declared plain (trial.Rules number why) = IsRefusal sources (course.Rules number why)
IsPlainUntried sources schedule declared plain (trial.Script error) = IsUnsaid (silenced_in plain.script) plain.lines (trial.Script error)
IsPlainUntried sources schedule declared plain (trial.Scenario error) = ⊥
IsPlainUntried sources schedule declared plain (trial.Expectation error) = IsUnexpected plain.script plain.lines (trial.Expectation error)
IsPlainUntried sources schedule declared plain (trial.NoRule n) = AsksForNobody declared plain n
IsPlainUntried sources schedule declared plain (trial.Stopped n) = StopsEarly sources schedule plain.script
IsPlainUntried sources schedule declared plain (trial.Unsettled n) = ⊥

-- what is held of a plain script
abbrev pub plain_script_of : Plain → PlainScript
plain_script_of plain = record { script = plain.text.items; lines = plain.lines.items }

-- the plain script that a scenario is short for in some round, in the words that the rule texts declare
pub record IsPlainOf (sources : List (List ℕ)) (schedule : Schedule) (scenario : List ℕ) (declared : Declarations) (plain : PlainScript) : Type 0 where
  pub declares : AreDeclared sources nothing_declared declared
  pub short : IsGuessed sources schedule declared scenario plain

-- a scenario says no plain script in these words, in some round
abbrev pub IsNoScript : (sources : List (List ℕ)) (schedule : Schedule) (text : List ℕ) → Declarations → ScenarioError → Type 0
IsNoScript sources schedule text declared error =
    (round : ℕ) × (changes : List ForceChange) × IsGuess sources schedule declared text round changes × IsScenarioError (plain_in declared changes text) error

abbrev pub SaysNoScript : (sources : List (List ℕ)) (schedule : Schedule) (text : List ℕ) → ScenarioError → Type 0
SaysNoScript sources schedule text scenario.Memory = ⊥
SaysNoScript sources schedule text (scenario.Line n reason) =
    (declared : Declarations) × AreDeclared sources nothing_declared declared × IsNoScript sources schedule text declared (scenario.Line n reason)

-- the most rounds
abbrev pub most_rounds : ℕ
most_rounds = 1000

-- a scenario is not settled in this many
abbrev pub StaysOpen : (sources : List (List ℕ)) (schedule : Schedule) (text : List ℕ) → Type 0
StaysOpen sources schedule text =
    (declared : Declarations) × AreDeclared sources nothing_declared declared × (round : ℕ) × (most_rounds ≤ round) × (changes : List ForceChange) × IsGuess sources schedule declared text round changes

-- its plain script isn't tried, for this reason
abbrev pub HasNoTrial : (sources : List (List ℕ)) (schedule : Schedule) (text : List ℕ) → TrialError → Type 0
HasNoTrial sources schedule text error =
    (declared : Declarations) × (plain : PlainScript) × IsPlainOf sources schedule text declared plain × IsPlainUntried sources schedule declared plain error

-- Why a scenario isn't tried: the first rule text that doesn't compile, the first of its lines that says nothing, or that says no
-- expectation, or one about a rule that no text has, or of what is left of it nothing of a stream; a run that stops early; commands that
-- name rules by a text in force that stays open; want of memory, or a writer that fails.
abbrev pub IsUntried : (sources : List (List ℕ)) (schedule : Schedule) (text : List ℕ) → TrialError → Type 0
IsUntried sources schedule text (trial.Rules number why) = IsRefusal sources (course.Rules number why)
IsUntried sources schedule text (trial.Scenario error) = SaysNoScript sources schedule text error
IsUntried sources schedule text (trial.Script error) = HasNoTrial sources schedule text (trial.Script error)
IsUntried sources schedule text (trial.Expectation error) = HasNoTrial sources schedule text (trial.Expectation error)
IsUntried sources schedule text (trial.NoRule n) = HasNoTrial sources schedule text (trial.NoRule n)
IsUntried sources schedule text (trial.Stopped n) = HasNoTrial sources schedule text (trial.Stopped n)
IsUntried sources schedule text (trial.Unsettled n) = StaysOpen sources schedule text
IsUntried sources schedule text trial.Memory = ⊤
IsUntried sources schedule text trial.Write = ⊤
