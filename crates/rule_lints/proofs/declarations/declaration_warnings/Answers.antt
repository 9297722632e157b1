use Rattle.rule_parser.specs.Syntax.{items_of}
use Rattle.rule_lints.specs.Items.{of_item}
use Rattle.rule_lints.proofs.Listed.{of_all}
use Rattle.rule_lints.proofs.declarations.declaration_warnings.Goals as goal

pub returns : goal.returns
returns c = of_all (of_item (items_of c.args.items.now)) _ _ c.args.items.now c.loop-item.item-index c.loop-item.invariant c.loop-item-test.false
