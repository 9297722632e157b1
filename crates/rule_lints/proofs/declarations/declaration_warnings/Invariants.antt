use Rattle.std.proofs.Common.{◌≡◌, ◌++◌, take, flat_map}
use Rattle.std.specs.Prelude.{not}
use Rattle.std.specs.List.{list_any}
use Rattle.rule_parser.specs.Syntax.{item_of, items_of}
use Rattle.rule_parser.specs.declared.syntax.Item.{Item}
use Rattle.rule_lints.specs.declared.lint.Lint.TheVariants as lint
use Rattle.rule_lints.specs.Items.{is_rule, of_item, warn_if}
use Rattle.rule_lints.proofs.declarations.declaration_warnings.Given as goal

abbrev pub invariant-loop-item : goal.invariant-loop-item
invariant-loop-item l =
    l.found.items ≡ warn_if (not (list_any is_rule (items_of l.items))) lint.NoRules l.end 0
    ++ flat_map (λ (i : Item). of_item (items_of l.items) (item_of i)) (take l.item-index l.items)
