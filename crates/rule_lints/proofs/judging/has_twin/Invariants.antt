use Rattle.std.proofs.Common.{◌≡◌, drop}
use Rattle.rule_parser.specs.Syntax.{items_of}
use Rattle.rule_lints.specs.Judged.{has_twin}
use Rattle.rule_lints.proofs.judging.has_twin.Given as goal

abbrev pub invariant-loop-pair : goal.invariant-loop-pair
invariant-loop-pair l = has_twin (items_of l.items) l.pairs l.number ≡ has_twin (items_of l.items) (drop l.pair-index l.pairs) l.number
