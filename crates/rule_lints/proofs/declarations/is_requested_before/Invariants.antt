use Rattle.std.proofs.Common.{◌≡◌, drop}
use Rattle.std.specs.List.{list_any}
use Rattle.rule_parser.specs.Syntax.{items_of, rule_of}
use Rattle.rule_lints.specs.Items.{requests_before}
use Rattle.rule_lints.proofs.declarations.is_requested_before.Given as goal

abbrev pub invariant-loop-item : goal.invariant-loop-item
invariant-loop-item l = list_any (requests_before (rule_of l.rule)) (items_of l.items) ≡ list_any (requests_before (rule_of l.rule)) (items_of (drop l.item-index l.items))
