use Rattle.std.proofs.Common.{◌≡◌, ◌++◌, take, flat_map}
use Rattle.rule_parser.specs.Syntax.{items_of}
use Rattle.rule_lints.specs.Judged.{of_unsampled}
use Rattle.rule_lints.proofs.judging.add_unsampled.Given as goal

abbrev pub invariant-loop-number : goal.invariant-loop-number
invariant-loop-number l = l.found.items ≡ l.initial.found.items ++ flat_map (of_unsampled (items_of l.items)) (take l.number-index l.unsampled)
