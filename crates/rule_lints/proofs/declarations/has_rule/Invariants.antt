use Rattle.std.proofs.Common.{◌≡◌, drop}
use Rattle.std.specs.List.{list_any}
use Rattle.rule_parser.specs.Syntax.{items_of}
use Rattle.rule_lints.specs.Items.{is_rule}
use Rattle.rule_lints.proofs.declarations.has_rule.Given as goal

abbrev pub invariant-loop-item : goal.invariant-loop-item
invariant-loop-item l = list_any (is_rule) (items_of l.items) ≡ list_any (is_rule) (items_of (drop l.item-index l.items))
