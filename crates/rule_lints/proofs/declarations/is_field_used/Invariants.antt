use Rattle.std.proofs.Common.{◌≡◌, drop}
use Rattle.std.specs.List.{list_any}
use Rattle.rule_parser.specs.Syntax.{items_of}
use Rattle.rule_lints.specs.Items.{uses_field}
use Rattle.rule_lints.proofs.declarations.is_field_used.Given as goal

abbrev pub invariant-loop-item : goal.invariant-loop-item
invariant-loop-item l = list_any (uses_field l.name) (items_of l.items) ≡ list_any (uses_field l.name) (items_of (drop l.item-index l.items))
