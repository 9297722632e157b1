use Rattle.std.proofs.Common.{◌≡◌, false, take}
use Rattle.std.specs.List.{list_any}
use Rattle.rule_parser.specs.Syntax.{items_of}
use Rattle.field_checker.specs.declared.number.RuleNumber.{RuleNumber}
use Rattle.field_checker.specs.Number.{stands_at}
use Rattle.field_checker.proofs.number_place.number_at.Given as goal

abbrev pub invariant-loop-item : goal.invariant-loop-item
invariant-loop-item l = (number : RuleNumber) → list_any (stands_at number l.at) (items_of (take l.item-index l.item-items)) ≡ false
