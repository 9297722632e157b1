use Rattle.std.proofs.Common.{◌≡◌, take}
use Rattle.std.specs.Prelude.{filter}
use Rattle.rule_analysis.specs.declared.finding.PairJudgement.{PairJudgement}
use Rattle.rule_lints.specs.Judged.{is_same}
use Rattle.rule_lints.proofs.judging.alike_among.Given as goal

abbrev pub invariant-loop-pair : goal.invariant-loop-pair
invariant-loop-pair l = l.alike.items ≡ filter (λ (p : PairJudgement). is_same p.relation) (take l.pair-index l.pairs)
