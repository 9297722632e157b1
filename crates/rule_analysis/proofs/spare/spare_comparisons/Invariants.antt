use Rattle.std.proofs.Common.{ℕ, ◌<◌}
use Rattle.std.specs.List.{AllByRecursion}
use Rattle.lc_model.specs.declared.field.Term.{Term}
use Rattle.lc_model.specs.Rule.{rules_of}
use Rattle.rule_analysis.specs.Spare.{AreOfRulesBefore, IsOf, IsSpare, IsToldOrNeeded}
use Rattle.rule_analysis.proofs.spare.spare_comparisons.Given as goal

abbrev pub invariant-loop-rule : goal.invariant-loop-rule
invariant-loop-rule l = record {
  sound : AllByRecursion (IsSpare (rules_of l.rules)) l.spare.items;
  told : (i : ℕ) → i < l.rule → (t : Term) → IsOf (rules_of l.rules) i t → IsToldOrNeeded l.unsettled (rules_of l.rules) l.spare.items i t;
  once : AreOfRulesBefore l.spare.items l.rule;
}
