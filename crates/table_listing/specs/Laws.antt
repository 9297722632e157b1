-- The laws of decompiled equations: the value of their words, and their words when they are compiled again. This
-- project's own.
use Rattle.std.specs.Prelude.{◌≡◌, ℕ, ◌≤◌, ◌<◌, List, length, Some}
use Rattle.lc_model.specs.declared.field.Term.{Term}
use Rattle.lc_model.specs.declared.truth.Truth.{Truth}
use Rattle.lc_model.specs.Codes.{table_entries}
use Rattle.lc_model.specs.Condition.{Condition}
use Rattle.lc_model.specs.LimitChecker.Watch.{truth_by}
use Rattle.lc_model.specs.Tables.Equation.{words}
use Rattle.lc_model.specs.Tables.InForce.{limits, arranged}
use Rattle.lc_model.specs.Tables.Spelled.{spelled_condition}
use Rattle.lc_model.specs.Laws.Equations.{Runs}
use Rattle.table_validator.specs.Sound.{IsSoundEquation}
use Rattle.table_listing.specs.Formula.{Formula, IsTreeOf, IsOver, StandsHeavierFirst, KeepsNumbers, value, found_at}

-- words have at most one tree
abbrev pub OneTree : Type 0
OneTree = (ws : List ℕ) (f g : Formula) → IsTreeOf ws f → IsTreeOf ws g → f ≡ g

-- The words over these watchpoints spell a condition, which is the formula over them. So it has the formula's value
-- for all results of the watchpoints.
pub record MeansAsItsWords (terms : List Term) (ws : List ℕ) (f : Formula) : Type 0 where
  pub condition : Condition
  pub spelled : spelled_condition terms ws ≡ Some condition
  pub over : IsOver terms f condition
  pub same : (found : Term → Truth) → truth_by found condition ≡ value (found_at terms found) f

-- this holds for each sound equation and its tree
abbrev pub TreesMeanAsTheirWords : Type 0
TreesMeanAsTheirWords = (terms : List Term) (ws : List ℕ) (f : Formula) → length terms ≤ table_entries →
    IsSoundEquation (length terms) ws → IsTreeOf ws f → MeansAsItsWords terms ws f

-- A condition over these watchpoints, compiled again: its words can be run, and have the formula's value for all
-- results of the watchpoints.
pub record MeansTheSameAgain (terms : List Term) (f : Formula) (c : Condition) : Type 0 where
  pub runs : Runs terms (words terms (arranged c)) (arranged c)
  pub same : (found : Term → Truth) → truth_by found (arranged c) ≡ value (found_at terms found) f

-- this holds for the tree of each sound equation that fits an entry
abbrev pub CompiledAgainMeansTheSame : Type 0
CompiledAgainMeansTheSame = (terms : List Term) (ws : List ℕ) (f : Formula) (c : Condition) → length terms ≤ table_entries →
    length ws < limits.words → IsSoundEquation (length terms) ws → IsTreeOf ws f → IsOver terms f c → MeansTheSameAgain terms f c

-- the words are the same again if the heavier operand stands first and the watchpoints keep their numbers
abbrev pub CompiledAgainIsTheSame : Type 0
CompiledAgainIsTheSame = (terms : List Term) (ws : List ℕ) (f : Formula) (c : Condition) → IsTreeOf ws f → IsOver terms f c →
    StandsHeavierFirst f → KeepsNumbers terms f → words terms (arranged c) ≡ ws
