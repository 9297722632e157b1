use Rattle.std.proofs.Common.{◌≡◌, drop}
use Rattle.rule_parser.specs.Syntax.{items_of}
use Rattle.rule_lints.specs.Judged.{rule_at}
use Rattle.rule_lints.proofs.judging.rule_at.Given as goal

abbrev pub invariant-loop-item : goal.invariant-loop-item
invariant-loop-item l = rule_at (items_of (drop l.item-index l.items)) l.left ≡ rule_at (items_of l.items) l.number
