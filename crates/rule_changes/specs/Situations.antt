-- Situations: packets that came, and agings. This project's own.
use Rattle.std.specs.Prelude.{◌≡◌, ◌≢◌, ℕ, zero, suc, ◌∷◌, ◌++◌}
use Rattle.std.specs.List.{AllByRecursion}
use Rattle.std.specs.declared.vec.Vec.{Vec}
use Rattle.std.specs.Global.{Global}
use Rattle.lc_model.specs.declared.truth.Truth.TheVariants.{True}
use Rattle.lc_model.specs.Condition.{Condition}
use Rattle.lc_model.specs.LimitChecker.Watch.{History, Aging, truth_of}
use Rattle.rule_analysis.specs.Came.{history_of}
use Rattle.rule_analysis.specs.Findings.{IsTelemetry}
use Rattle.rule_changes.specs.declared.situation.Situation.{Situation}

-- Then all watchpoints aged this many times.
abbrev pub aged_by : ℕ → History → History
aged_by zero earlier = earlier
aged_by (suc n) earlier = Aging ∷ aged_by n earlier

-- First the earlier packets came, then the agings, then the recent packets. Of both lists the first packet came last.
abbrev pub history_in : Situation → History
history_in s = history_of s.recent.items ++ aged_by s.agings (history_of s.earlier.items)

-- Packets that a stream may bring, after which the first condition is true and the second one is not.
pub record ShowsOnlyFirst (first second : Condition) (s : Situation) : Type 0 where
  pub recent : AllByRecursion (λ (packet : Vec ℕ Global). IsTelemetry packet.items) s.recent.items
  pub earlier : AllByRecursion (λ (packet : Vec ℕ Global). IsTelemetry packet.items) s.earlier.items
  pub is_true : truth_of first (history_in s) ≡ True
  pub is_not : truth_of second (history_in s) ≢ True
