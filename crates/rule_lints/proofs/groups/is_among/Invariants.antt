use Rattle.std.proofs.Common.{◌≡◌, drop}
use Rattle.rule_lints.specs.Judged.{is_among}
use Rattle.rule_lints.proofs.groups.is_among.Given as goal

abbrev pub invariant-loop-pair : goal.invariant-loop-pair
invariant-loop-pair l = is_among l.pairs l.first l.second ≡ is_among (drop l.pair-index l.pairs) l.first l.second
