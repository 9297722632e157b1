use Rattle.std.proofs.Common.{◌≡◌, ◌++◌}
use Rattle.rule_lints.specs.Judged.{comparisons_below}
use Rattle.rule_lints.proofs.judging.add_comparisons.Given as goal

abbrev pub invariant-loop-n : goal.invariant-loop-n
invariant-loop-n l = l.found.items ≡ l.initial.found.items ++ comparisons_below l.number l.places l.judged l.n
