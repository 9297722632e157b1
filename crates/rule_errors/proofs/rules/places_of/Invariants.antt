use Rattle.std.proofs.Common.{◌≡◌, ◌++◌, drop}
use Rattle.rule_parser.specs.Syntax.{items_of}
use Rattle.rule_errors.specs.Places.{all_places}
use Rattle.rule_errors.proofs.rules.places_of.Given as goal

abbrev pub invariant-loop-item : goal.invariant-loop-item
invariant-loop-item l = l.found.items ++ all_places (items_of (drop l.item-index l.items)) ≡ all_places (items_of l.items)
