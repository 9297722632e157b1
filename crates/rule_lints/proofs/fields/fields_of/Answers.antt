use Rattle.std.proofs.Common.{[]}
use Rattle.rule_parser.specs.Syntax.{items_of}
use Rattle.rule_lints.specs.Items.{field_in}
use Rattle.rule_lints.proofs.Listed.{of_all}
use Rattle.rule_lints.proofs.fields.fields_of.Goals as goal

pub returns : goal.returns
returns c = of_all (field_in (items_of c.args.items.now)) [] _ c.args.items.now c.loop-item.item-index c.loop-item.invariant c.loop-item-test.false
