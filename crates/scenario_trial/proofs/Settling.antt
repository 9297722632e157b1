-- A script that is said, run, and said again by what the run has shown.
use Rattle.std.proofs.Common.{◌≡◌, sym, subst, ℕ, suc, List, [], Result, Ok, Err}
use Rattle.std.specs.Prelude.{IfErr}
use Rattle.lc_model.specs.Host.Schedule.{Schedule}
use Rattle.scenarios.specs.Declarations.{Declarations, AreDeclared, nothing_declared}
use Rattle.scenarios.specs.Error.{IsScenarioError}
use Rattle.scenarios.specs.Plain.{PlainScript, plain_in}
use Rattle.scenarios.specs.declared.error.ScenarioError.{ScenarioError}
use Rattle.scenarios.specs.declared.error.ScenarioError.TheVariants as scenario
use Rattle.scenarios.specs.declared.force.ForceChange.{ForceChange}
use Rattle.scenario_trial.specs.declared.error.TrialError.{TrialError}
use Rattle.scenario_trial.specs.Reading.{silenced_in}
use Rattle.scenario_trial.specs.Settled.{AreShown, IsGuess, IsGuessed, IsSettled}
use Rattle.scenario_trial.specs.Untried.{IsUntried, of_scenario}

module _ (sources : List (List ℕ)) (schedule : Schedule) (declared : Declarations) (text : List ℕ) where
  -- what is so of a plain script in the round with this number
  pub record InRound (round : ℕ) (plain : PlainScript) : Type 0 where
    pub changes : List ForceChange
    pub guess : IsGuess sources schedule declared text round changes
    pub said : plain_in declared changes text ≡ Ok plain

  pub first_round : (changes : List ForceChange) (plain : PlainScript) → changes ≡ [] → plain_in declared changes text ≡ Ok plain → InRound 0 plain
  first_round changes plain none said = record { changes = changes; guess = none; said = said }

  pub next_guess : (round : ℕ) (plain : PlainScript) (changes : List ForceChange) → InRound round plain → AreShown sources schedule (silenced_in plain.script) changes → IsGuess sources schedule declared text (suc round) changes
  next_guess round plain changes here shown = (here.changes, plain, here.guess, here.said, shown)

  pub next_round : (round : ℕ) (plain again : PlainScript) (changes : List ForceChange) → InRound round plain → AreShown sources schedule (silenced_in plain.script) changes → plain_in declared changes text ≡ Ok again → InRound (suc round) again
  next_round round plain again changes here shown said = record { changes = changes; guess = next_guess round plain changes here shown; said = said }

  pub guessed : (round : ℕ) (plain : PlainScript) → InRound round plain → IsGuessed sources schedule declared text plain
  guessed round plain here = record { round = round; changes = here.changes; guess = here.guess; said = here.said }

  pub settled : (plain again : PlainScript) (changes : List ForceChange) → AreShown sources schedule (silenced_in plain.script) changes → plain_in declared changes text ≡ Ok again → again ≡ plain → IsSettled sources schedule declared text again changes
  settled plain again changes shown said same = record {
    shown = subst (λ (it : PlainScript). AreShown sources schedule (silenced_in it.script) changes) (sym same) shown;
    said = said;
  }

  -- a line says nothing in a round
  pub no_script : (round : ℕ) (changes : List ForceChange) (error : ScenarioError) → AreDeclared sources nothing_declared declared → IsGuess sources schedule declared text round changes →
      IsScenarioError (plain_in declared changes text) error → IsUntried sources schedule text (of_scenario error)
  no_script round changes scenario.Memory declares guess is = tt
  no_script round changes (scenario.Line n reason) declares guess is = (declared, declares, (round, changes, guess, is))

-- ---- why a scenario isn't settled

pub refused_with : {A : Type 0} (P : TrialError → Type 0) (result : Result A TrialError) (error : TrialError) → result ≡ Err error → P error → IfErr result P
refused_with {A} P result error is why = subst (λ (it : Result A TrialError). IfErr it P) (sym is) why
