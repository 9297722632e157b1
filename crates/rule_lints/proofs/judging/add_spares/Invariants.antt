use Rattle.std.proofs.Common.{◌≡◌, ◌++◌}
use Rattle.rule_parser.specs.Syntax.{items_of}
use Rattle.rule_lints.specs.Judged.{spare_below}
use Rattle.rule_lints.proofs.judging.add_spares.Given as goal

abbrev pub invariant-loop-number : goal.invariant-loop-number
invariant-loop-number l = l.found.items ≡ l.initial.found.items ++ spare_below (items_of l.items) l.rules l.spare l.number
