use Rattle.std.proofs.Common.{◌≡◌, drop}
use Rattle.std.specs.Prelude.{◌&&◌, ◌==◌}
use Rattle.std.specs.List.{list_any}
use Rattle.rule_analysis.specs.declared.finding.PairJudgement.{PairJudgement}
use Rattle.rule_lints.specs.Judged.{is_among, is_covered}
use Rattle.rule_lints.proofs.groups.is_covered.Given as goal

abbrev pub invariant-loop-other : goal.invariant-loop-other
invariant-loop-other l =
    is_covered l.groups l.pair
    ≡ list_any (λ (q : PairJudgement). (q.second == l.pair.first) && is_among l.groups q.first l.pair.second) (drop l.other-index l.groups)
