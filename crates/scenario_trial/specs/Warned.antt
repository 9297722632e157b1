-- What is to be looked at in a script that was tried. This project's own.
use Rattle.std.specs.Prelude.{◌≡◌, ℕ, ◌+◌, ◌==◌, Bool, true, false, not, ◌&&◌, List, [], ◌∷◌, ◌++◌, filter_map, find, bytes_eq, codes, Option, Some, None, if◌then◌else◌}
use Rattle.std.specs.List.{list_any}
use Rattle.lc_model.specs.Host.ScheduleText.{lines_of, words_of}
use Rattle.rpn_compiler.specs.declared.rule_text.RuleText.{RuleText}
use Rattle.scenarios.specs.Declarations.{Declarations}
use Rattle.scenarios.specs.Orders.{is_all}
use Rattle.scenarios.specs.Plain.{line_of}
use Rattle.scenarios.specs.Rules.{numbers_differ, rule_numbered}
use Rattle.scenarios.specs.declared.force.ForceChange.{ForceChange}
use Rattle.run_stepper.specs.Trace.{Arrived, Part, arrived_from, has_record}
use Rattle.run_stepper.specs.declared.standing.RuleStanding.{RuleStanding}
use Rattle.run_stepper.specs.declared.standing.RuleStanding.TheVariants.{Stands}
use Rattle.scenario_trial.specs.declared.expectation.Arrival.{Arrival}
use Rattle.scenario_trial.specs.declared.expectation.ArrivalKind.{ArrivalKind}
use Rattle.scenario_trial.specs.declared.trial.TrialOutcome.{TrialOutcome}
use Rattle.scenario_trial.specs.declared.verdict.Judged.{Judged}
use Rattle.scenario_trial.specs.declared.warning.TrialWarning.{TrialWarning}
use Rattle.scenario_trial.specs.declared.warning.TrialWarning.TheVariants.{ManyNumbers, NoRecord, NothingRan, NothingTried, OtherText, UngivenTables, UnknownNumber}
use Rattle.scenario_trial.specs.Arrivals.{arrival_of, rule_in}
use Rattle.scenario_trial.specs.Expected.{Absent, Comes, Expected, LastResult, State, expected_of}
use Rattle.scenario_trial.specs.Judged.{kind_number}
use Rattle.scenario_trial.specs.Numbers.{is_known}
use Rattle.scenario_trial.specs.Origin.{text_named}
use Rattle.scenario_trial.specs.Reading.{PlacedExpected}

-- ---- the rule that a line names

-- the rule of a line is of this text and has this number, where another text is in force
abbrev pub of_other_text : (n force : ℕ) → (text rule : Option ℕ) → Option TrialWarning
of_other_text n force None rule = None
of_other_text n force (Some text) None = None
of_other_text n force (Some text) (Some rule) = if text == force then None else Some (OtherText n text force rule)

-- the warning of a line that names a rule, or else that the texts give this rule different numbers
abbrev pub or_many : Declarations → (n : ℕ) → (name : List ℕ) → Option TrialWarning → Option TrialWarning
or_many declared n name (Some warning) = Some warning
or_many declared n name None = if numbers_differ declared name then Some (ManyNumbers n) else None

-- the rule of `state RULE STATE`
abbrev pub state_rule : List (List ℕ) → Option (List ℕ)
state_rule (verb ∷ name ∷ words) = if bytes_eq verb (codes "state") && not (is_all name) then Some name else None
state_rule words = None

-- the first of two warnings
abbrev pub or_later : Option TrialWarning → Option TrialWarning → Option TrialWarning
or_later (Some warning) later = Some warning
or_later None later = later

abbrev pub warned_before : Option TrialWarning → List TrialWarning → List TrialWarning
warned_before None warnings = warnings
warned_before (Some warning) warnings = warning ∷ warnings

-- a rule of this state and last result was found, but the tables in force are of no given text
abbrev pub ungiven_warning : (n : ℕ) → (force : Option ℕ) → RuleStanding → Option TrialWarning
ungiven_warning n None (Stands state last) = Some (UngivenTables n)
ungiven_warning n force found = None

-- nothing is to come in seconds in which some record of the run is, or none
abbrev pub tried_in : (n : ℕ) → Bool → Option TrialWarning
tried_in n true = None
tried_in n false = Some (NoRecord n)

abbrev pub span_warning : (n : ℕ) → List Part → Expected → Option TrialWarning
span_warning n parts (Comes coming) = None
span_warning n parts (Absent coming) = tried_in n (has_record coming.span.first coming.span.last parts)
span_warning n parts (State rule state) = None
span_warning n parts (LastResult rule last) = None

-- nothing of a number is to come that one of these texts leads to, or none
abbrev pub numbered_in : (n : ℕ) → Bool → Option TrialWarning
numbered_in n true = None
numbered_in n false = Some (UnknownNumber n)

abbrev pub number_warning : List RuleText → (n : ℕ) → Expected → Option TrialWarning
number_warning texts n (Comes coming) = None
number_warning texts n (Absent coming) = numbered_in n (is_known texts coming.what)
number_warning texts n (State rule state) = None
number_warning texts n (LastResult rule last) = None

module _ (texts : List RuleText) (declared : Declarations) where
  -- a line names a rule by this word, which is of another text than the one in force there
  abbrev pub other_text : (n : ℕ) → (force : Option ℕ) → (word : List ℕ) → Option TrialWarning
  other_text n None word = None
  other_text n (Some force) word = of_other_text n force (text_named texts force word) (rule_numbered declared (Some force) word)

  -- ---- expectations

  -- the warning of an expectation about a rule
  abbrev pub named_warning : (n : ℕ) → (force : Option ℕ) → (name : Option (List ℕ)) → Option TrialWarning
  named_warning n force None = None
  named_warning n force (Some name) = or_many declared n name (other_text n force name)

  -- that of an expectation over such a run, if the tables in force are of a given text
  abbrev pub given_warning : (n : ℕ) → List Part → Judged → Option TrialWarning
  given_warning n parts judged =
      let expected = expected_of judged.placed.expectation in
      or_later (named_warning n judged.force (rule_in expected)) (or_later (span_warning n parts expected) (number_warning texts n expected))

  -- the same for all tables, at the scenario's line of the expectation
  abbrev pub expectation_warning : (lines : List ℕ) → List Part → Judged → Option TrialWarning
  expectation_warning lines parts judged =
      let n = line_of lines judged.placed.n in
      or_later (ungiven_warning n judged.force judged.found) (given_warning n parts judged)

  abbrev pub expectation_warnings : (lines : List ℕ) → List Part → List Judged → List TrialWarning
  expectation_warnings lines parts judged = filter_map (expectation_warning lines parts) judged

  -- ---- lines of a scenario that set the state of a rule, where these lines of it say the plain script, and these texts are in force

  -- the warning of a command that the line with this number says about a rule of this name
  abbrev pub command_warning : (lines : List ℕ) (n : ℕ) (name : List ℕ) → ForceChange → Option TrialWarning
  command_warning lines n name change = if line_of lines change.line == n then other_text n change.text name else None

  -- that of the first of its commands that has one
  abbrev pub first_command : (lines : List ℕ) (n : ℕ) (name : List ℕ) → List ForceChange → Option TrialWarning
  first_command lines n name [] = None
  first_command lines n name (change ∷ changes) = or_later (command_warning lines n name change) (first_command lines n name changes)

  abbrev pub setting_warning : (lines : List ℕ) → List ForceChange → (n : ℕ) → (name : Option (List ℕ)) → Option TrialWarning
  setting_warning lines changes n None = None
  setting_warning lines changes n (Some name) = or_many declared n name (first_command lines n name changes)

  abbrev pub state_warning : (lines : List ℕ) → List ForceChange → (n : ℕ) → (line : List ℕ) → Option TrialWarning
  state_warning lines changes n line = setting_warning lines changes n (state_rule (words_of line))

  -- those of lines of which the first has this number
  abbrev pub state_warnings_from : (lines : List ℕ) → List ForceChange → (n : ℕ) → List (List ℕ) → List TrialWarning
  state_warnings_from lines changes n [] = []
  state_warnings_from lines changes n (line ∷ others) =
      warned_before (state_warning lines changes n line) (state_warnings_from lines changes (n + 1) others)

  abbrev pub state_warnings : (lines : List ℕ) → List ForceChange → (scenario : List ℕ) → List TrialWarning
  state_warnings lines changes scenario = state_warnings_from lines changes 1 (lines_of scenario)

-- ---- a run in which nothing was tried

-- a request or an event of this kind is of the Limit Checker, and not of the host itself
abbrev pub is_kind_of_checker : ArrivalKind → Bool
is_kind_of_checker kind = not (kind_number kind == 2)

abbrev pub is_of_checker : Arrival → Bool
is_of_checker came = is_kind_of_checker came.kind

-- an expectation is about the Limit Checker
abbrev pub is_about_checker : Expected → Bool
is_about_checker (Comes coming) = is_kind_of_checker coming.what.kind
is_about_checker (Absent coming) = is_kind_of_checker coming.what.kind
is_about_checker (State rule state) = true
is_about_checker (LastResult rule last) = true

abbrev pub asks_checker : PlacedExpected → Bool
asks_checker placed = is_about_checker placed.expected

-- something is expected of the Limit Checker, by a first line, and of what came something is of it, or nothing
abbrev pub ran_by : ℕ → Bool → Option TrialWarning
ran_by n true = None
ran_by n false = Some (NothingRan n)

abbrev pub asked_by : List ℕ → Option PlacedExpected → List Arrived → Option TrialWarning
asked_by lines None came = None
asked_by lines (Some placed) came = ran_by (line_of lines placed.n) (list_any is_of_checker (filter_map arrival_of came))

-- nothing is expected, and nothing came
abbrev pub tried_by : List Arrived → Option TrialWarning
tried_by [] = Some NothingTried
tried_by (one ∷ others) = None

abbrev pub idle_warning : List ℕ → List PlacedExpected → List Arrived → Option TrialWarning
idle_warning lines [] came = tried_by came
idle_warning lines (placed ∷ others) came = asked_by lines (find asks_checker (placed ∷ others)) came

-- ---- all

abbrev pub with_idle : List TrialWarning → Option TrialWarning → List TrialWarning
with_idle warnings None = warnings
with_idle warnings (Some warning) = warnings ++ warning ∷ []

-- of the expectations, in order, and then whether something was tried
abbrev pub warnings_of : List RuleText → Declarations → (lines : List ℕ) → List Judged → List PlacedExpected → List Part → List TrialWarning
warnings_of texts declared lines judged expectations parts =
    with_idle (expectation_warnings texts declared lines parts judged) (idle_warning lines expectations (arrived_from 0 parts))

-- An outcome is that of a run, with these warnings before its own, and what the run looked at.
pub record IsWarnedBefore (first : List TrialWarning) (run outcome : TrialOutcome) : Type 0 where
  pub tried : outcome.tried ≡ run.tried
  pub warned : outcome.warnings.items ≡ first ++ run.warnings.items
  pub account : outcome.account ≡ run.account
