use Rattle.std.proofs.Common.{◌≡◌, ◌++◌, take, flat_map}
use Rattle.rule_parser.specs.Syntax.{items_of}
use Rattle.rule_lints.specs.Judged.{of_pair}
use Rattle.rule_lints.proofs.judging.add_pairs.Given as goal

abbrev pub invariant-loop-pair : goal.invariant-loop-pair
invariant-loop-pair l =
    l.found.items ≡ l.initial.found.items
    ++ flat_map (of_pair (items_of l.items) l.all.rules.items l.all.pairs.items l.all.groups.items) (take l.pair-index l.pairs)
