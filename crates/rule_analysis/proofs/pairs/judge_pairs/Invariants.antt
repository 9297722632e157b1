use Rattle.std.proofs.Common.{ℕ, ◌<◌}
use Rattle.std.specs.List.{AllByRecursion}
use Rattle.lc_model.specs.Rule.{rules_of}
use Rattle.rule_analysis.specs.Findings.{AreBefore, IsPair, IsSettledAt}
use Rattle.rule_analysis.proofs.pairs.judge_pairs.Given as goal

abbrev pub invariant-loop-second : goal.invariant-loop-second
invariant-loop-second l = record {
  sound : AllByRecursion (IsPair (rules_of l.rules)) l.pairs.items;
  settled : (j : ℕ) → j < l.second → (i : ℕ) → i < j → IsSettledAt l.unsettled (rules_of l.rules) l.pairs.items i j;
  order : AreBefore l.pairs.items 0 l.second;
}
