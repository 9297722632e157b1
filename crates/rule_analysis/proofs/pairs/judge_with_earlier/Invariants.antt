use Rattle.std.proofs.Common.{ℕ, ◌≤◌, ◌<◌}
use Rattle.std.specs.Prelude.{Contains}
use Rattle.std.specs.List.{AllByRecursion}
use Rattle.lc_model.specs.Rule.{rules_of}
use Rattle.rule_analysis.specs.declared.finding.PairJudgement.{PairJudgement}
use Rattle.rule_analysis.specs.Findings.{AreBefore, IsPair, IsSettledAt}
use Rattle.rule_analysis.proofs.pairs.judge_with_earlier.Given as goal

abbrev pub invariant-loop-first : goal.invariant-loop-first
invariant-loop-first l = record {
  sound : AllByRecursion (IsPair (rules_of l.rules)) l.fn.pairs.items → AllByRecursion (IsPair (rules_of l.rules)) l.pairs.items;
  kept : (p : PairJudgement) → Contains l.fn.pairs.items p → Contains l.pairs.items p;
  settled : (k : ℕ) → k < l.first → IsSettledAt l.unsettled (rules_of l.rules) l.pairs.items k l.second;
  grows : l.fn.unsettled ≤ l.unsettled;
  order : AreBefore l.fn.pairs.items 0 l.second → AreBefore l.pairs.items l.first l.second;
}
