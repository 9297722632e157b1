use Rattle.std.proofs.Common.{◌≤◌}
use Rattle.std.specs.Prelude.{Contains}
use Rattle.std.specs.List.{AllByRecursion}
use Rattle.lc_model.specs.Rule.{rules_of}
use Rattle.rule_analysis.specs.declared.finding.SpareComparison.{SpareComparison}
use Rattle.rule_analysis.specs.Spare.{AreOfRulesBefore, AreOfTermsBefore, IsSpare, AreToldUpTo}
use Rattle.rule_analysis.proofs.spare.judge_terms.Given as goal

abbrev pub invariant-loop-at : goal.invariant-loop-at
invariant-loop-at l = record {
  sound : AllByRecursion (IsSpare (rules_of l.rules)) l.fn.spare.items → AllByRecursion (IsSpare (rules_of l.rules)) l.spare.items;
  kept : (s : SpareComparison) → Contains l.fn.spare.items s → Contains l.spare.items s;
  told : AreToldUpTo l.unsettled (rules_of l.rules) l.spare.items l.rule l.terms.items l.at;
  grows : l.fn.unsettled ≤ l.unsettled;
  once : AreOfRulesBefore l.fn.spare.items l.rule → AreOfTermsBefore l.spare.items l.rule l.terms.items l.at;
}
