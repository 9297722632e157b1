-- What is declared with the items that are left is what all declare.
use Rattle.std.proofs.Common.{◌≡◌, ◌≤◌, drop}
use Rattle.rule_parser.specs.Syntax.{items_of}
use Rattle.scenarios.specs.Declarations.{with_items}
use Rattle.scenarios.proofs.declared.with_items.Given as goal

abbrev pub invariant-loop-item : goal.invariant-loop-item
invariant-loop-item l = record {
  says : with_items l.text l.next (items_of (drop l.item-index l.items)) l.declared ≡ with_items l.text 0 (items_of l.items) l.fn.start;
  counted : l.next ≤ l.item-index;
}
