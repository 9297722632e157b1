use Rattle.std.proofs.Common.{◌≡◌, ◌++◌}
use Rattle.rule_lints.specs.Quiet.{spare_below}
use Rattle.rule_lints.proofs.comments.add_places.Given as goal

abbrev pub invariant-loop-at : goal.invariant-loop-at
invariant-loop-at l = l.found.items ≡ l.initial.found.items ++ spare_below l.text l.all l.at
