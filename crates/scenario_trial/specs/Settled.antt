-- Which rule text is in force at the commands of a script that set states of rules, by the run over it. This project's own.
use Rattle.std.specs.Prelude.{◌≡◌, ℕ, zero, suc, ◌+◌, ◌-◌, Bool, true, false, ◌&&◌, ◌||◌, List, [], ◌∷◌, codes, bytes_eq, map, take, Ok, Option}
use Rattle.std.specs.List.{AllByRecursion}
use Rattle.lc_model.specs.Host.Schedule.{Schedule}
use Rattle.lc_model.specs.Host.ScheduleText.{lines_of, words_of}
use Rattle.lc_model.specs.Kept.Executive.{Executive}
use Rattle.scenarios.specs.Declarations.{Declarations}
use Rattle.scenarios.specs.Named.{NamedRule}
use Rattle.scenarios.specs.Orders.{state_line}
use Rattle.scenarios.specs.Plain.{PlainScript, plain_in}
use Rattle.scenarios.specs.declared.force.ForceChange.{ForceChange}
use Rattle.stream_script.specs.ByLines.{line_start}
use Rattle.stream_script.specs.Script.{script_in}
use Rattle.flight_profile.specs.Force.{IsInForce}
use Rattle.run_stepper.specs.Places.{StandsBehind}
use Rattle.scenario_trial.specs.Reading.{silenced_in}

-- ---- the commands that set the state of a rule

-- 3, or 4, which puts the rule off for good
abbrev pub is_state_code : List ℕ → Bool
is_state_code code = bytes_eq code (codes "3") || bytes_eq code (codes "4")

-- `command 18a4 CODE` with such a code: the Limit Checker's
abbrev pub is_of_state : (verb mid code : List ℕ) → Bool
is_of_state verb mid code = bytes_eq verb (codes "command") && (bytes_eq mid (codes "18a4") && is_state_code code)

-- these are the words in front
abbrev pub are_of_state : List (List ℕ) → Bool
are_of_state (verb ∷ mid ∷ code ∷ words) = is_of_state verb mid code
are_of_state words = false

-- a line of a plain script is one
abbrev pub sets_state : List ℕ → Bool
sets_state line = are_of_state (words_of line)

-- what a scenario's line of a state says is one
abbrev pub StatesAreMarked : Type 0
StatesAreMarked = (rules : List NamedRule) (force : Option ℕ) (words : List (List ℕ)) (line : List ℕ) → state_line rules force words ≡ Ok line → sets_state line ≡ true

-- the numbers of the lines that are marked, where the first has this number
abbrev pub marked_from : ℕ → List Bool → List ℕ
marked_from n [] = []
marked_from n (false ∷ marks) = marked_from (n + 1) marks
marked_from n (true ∷ marks) = n ∷ marked_from (n + 1) marks

-- the numbers of a script's lines, from 1, that set states of rules
abbrev pub state_lines : List ℕ → List ℕ
state_lines script = marked_from 1 (map sets_state (lines_of script))

-- the line of a change
abbrev pub line_in : ForceChange → ℕ
line_in change = change.line

-- ---- the text in force at them

module _ (sources : List (List ℕ)) (schedule : Schedule) (script : List ℕ) where
  -- Behind what the script says before the line of a change, its text is in force, or none.
  pub record IsShown (change : ForceChange) : Type 0 where
    pub stream : List ℕ
    pub says : script_in (take (line_start (change.line - 1) (lines_of script)) script) ≡ Ok stream
    pub now : Executive (List ℕ)
    pub behind : StandsBehind sources schedule stream now
    pub in_force : IsInForce sources now change.text

  -- There is a change for each line that sets the state of a rule, in order: to the text in force there.
  pub record AreShown (changes : List ForceChange) : Type 0 where
    pub lines : map line_in changes ≡ state_lines script
    pub shown : AllByRecursion IsShown changes

-- ---- the plain script in which each such command is said by the text in force at its line

module _ (sources : List (List ℕ)) (schedule : Schedule) (declared : Declarations) (scenario : List ℕ) where
  -- What is taken for the text in force in each round: none at first, then what the run of the round before has shown.
  abbrev pub IsGuess : ℕ → List ForceChange → Type 0
  IsGuess zero changes = changes ≡ []
  IsGuess (suc round) changes =
      (before : List ForceChange) × (plain : PlainScript) × IsGuess round before × (plain_in declared before scenario ≡ Ok plain)
      × AreShown sources schedule (silenced_in plain.script) changes

  -- a plain script is said so in some round
  pub record IsGuessed (plain : PlainScript) : Type 0 where
    pub round : ℕ
    pub changes : List ForceChange
    pub guess : IsGuess round changes
    pub said : plain_in declared changes scenario ≡ Ok plain

  -- A plain script is settled with these texts in force at its commands: its own run shows them, and with them the scenario says this plain
  -- script.
  pub record IsSettled (plain : PlainScript) (changes : List ForceChange) : Type 0 where
    pub shown : AreShown sources schedule (silenced_in plain.script) changes
    pub said : plain_in declared changes scenario ≡ Ok plain
