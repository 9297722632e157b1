use Rattle.std.proofs.Common.{◌≡◌, ◌++◌, drop}
use Rattle.std.specs.Prelude.{option_map}
use Rattle.lc_model.specs.Rule.{rules_of}
use Rattle.lc_model.specs.Text.Meaning.{rules_in}
use Rattle.rule_parser.specs.Syntax.{items_of}
use Rattle.field_checker.proofs.meaning.rules.Given as goal

abbrev pub invariant-loop-item : goal.invariant-loop-item
invariant-loop-item l =
    let items = items_of l.names.items.now in
    rules_in items items ≡ option_map (λ rs. rules_of l.rules.items ++ rs) (rules_in items (items_of (drop l.item-index l.names.items.now)))
