use Rattle.std.proofs.Common.{◌≡◌, drop}
use Rattle.rule_parser.specs.Syntax.{items_of}
use Rattle.rule_errors.specs.Places.{rule_place}
use Rattle.rule_errors.proofs.rules.rule_among.Given as goal

abbrev pub invariant-loop-item : goal.invariant-loop-item
invariant-loop-item l = rule_place (items_of (drop l.item-index l.items)) l.left ≡ rule_place (items_of l.items) l.number
