-- A changed rule that fails only where the old one fails, and needs no fewer failures in a row, requests its sequence no more
-- often. This project's own.
use Rattle.std.specs.Prelude.{◌≡◌, ℕ, ◌+◌, ◌≤◌, List, [], ◌∷◌, IsTrue, ⊤}
use Rattle.lc_model.specs.declared.truth.Truth.TheVariants.{True}
use Rattle.lc_model.specs.declared.field.Term.{Term}
use Rattle.lc_model.specs.declared.mode.LcMode.TheVariants as mode
use Rattle.lc_model.specs.declared.mode.ApMode.{ApMode}
use Rattle.lc_model.specs.declared.mode.ApMode.TheVariants as state
use Rattle.lc_model.specs.Condition.{Condition}
use Rattle.lc_model.specs.Rule.{Actionpoint}
use Rattle.lc_model.specs.Events.Request.{Request, Event, Sequence, Housekeeping}
use Rattle.lc_model.specs.LimitChecker.Watch.{History, truth_of}
use Rattle.lc_model.specs.LimitChecker.Past.{Past, run_of_fails}
use Rattle.lc_model.specs.LimitChecker.Steps.{Point, by_lists, is_sampled, sampled_point}

-- After every history: if the new condition is true, so is the old one. For example `V < 5` and `V < 10`.
abbrev pub IsTrueOnlyWhere : Condition → Condition → Type 0
IsTrueOnlyWhere new old = (h : History) → truth_of new h ≡ True → truth_of old h ≡ True

-- The new rule fails only where the old one fails, and needs at least as many failures in a row before it requests its sequence.
pub record FailsNoSooner (new old : Actionpoint) : Type 0 where
  pub fails : old.fails ≤ new.fails
  pub only : IsTrueOnlyWhere new.condition old.condition

-- Both rules are in the same state, or the old one has requested already and is passive while the new one is still active.
abbrev pub Lags : ApMode → ApMode → Type 0
Lags state.Active state.Active = ⊤
Lags state.Active state.Passive = ⊤
Lags state.Passive state.Passive = ⊤
Lags state.Disabled state.Disabled = ⊤
Lags state.PermOff state.PermOff = ⊤
Lags new old = ⊥

-- How many requests the new rule may still catch up: one, if it is active and the old one is passive.
abbrev pub debt : ApMode → ApMode → ℕ
debt state.Active state.Passive = 1
debt new old = 0

-- The new rule has come no further than the old one: in its state, and in its number of failures in a row.
pub record IsBehind (new old : Point Past) : Type 0 where
  pub state : Lags new.state old.state
  pub run : run_of_fails new.past ≤ run_of_fails old.past

-- The number of sequences among these requests.
abbrev pub sequences : List Request → ℕ
sequences [] = 0
sequences (Event sender id kind text ∷ requests) = sequences requests
sequences (Sequence number ∷ requests) = 1 + sequences requests
sequences (Housekeeping m points ∷ requests) = sequences requests

-- Both rules are sampled once more by an active Limit Checker. The new rule has still come no further, and what it requests, with
-- what it may still catch up, is at most what the old one requests, with what could be caught up before.
pub record StaysBehind (terms theirs : List Term) (h : History) (n m : ℕ) (new old : Actionpoint) (p q : Point Past) : Type 0 where
  pub behind : IsBehind (sampled_point by_lists terms mode.Active h n new p).0 (sampled_point by_lists theirs mode.Active h m old q).0
  pub requests : sequences (sampled_point by_lists terms mode.Active h n new p).1
      + debt (sampled_point by_lists terms mode.Active h n new p).0.state (sampled_point by_lists theirs mode.Active h m old q).0.state
      ≤ sequences (sampled_point by_lists theirs mode.Active h m old q).1 + debt p.state q.state

-- Law: if a rule fails no sooner than another one, and has come no further, that is so after each sample.
abbrev pub RulesStayBehind : Type 0
RulesStayBehind = (terms theirs : List Term) (h : History) (n m : ℕ) (new old : Actionpoint) (p q : Point Past) →
    FailsNoSooner new old → IsBehind p q → IsTrue (is_sampled p.state) → StaysBehind terms theirs h n m new old p q
