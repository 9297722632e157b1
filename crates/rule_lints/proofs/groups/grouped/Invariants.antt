use Rattle.std.proofs.Common.{◌≡◌, [], fold, take}
use Rattle.rule_lints.specs.Judged.{with_pair}
use Rattle.rule_lints.proofs.groups.grouped.Given as goal

abbrev pub invariant-loop-pair : goal.invariant-loop-pair
invariant-loop-pair l = l.groups.items ≡ fold (with_pair l.rules) [] (take l.pair-index l.pairs)
