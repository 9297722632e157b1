use Rattle.std.proofs.Common.{◌≡◌, take, flat_map}
use Rattle.rule_parser.specs.declared.syntax.Item.{Item}
use Rattle.rule_parser.specs.Syntax.{item_of, items_of}
use Rattle.rule_lints.specs.Items.{field_in}
use Rattle.rule_lints.proofs.fields.fields_of.Given as goal

abbrev pub invariant-loop-item : goal.invariant-loop-item
invariant-loop-item l = l.fields.items ≡ flat_map (λ (i : Item). field_in (items_of l.items) (item_of i)) (take l.item-index l.items)
