use Rattle.std.proofs.Common.{◌≡◌, None, take}
use Rattle.std.specs.Prelude.{flat_map}
use Rattle.lc_model.specs.Text.Meaning.{faults_of}
use Rattle.rule_parser.specs.Syntax.{item_of, items_of}
use Rattle.field_checker.specs.Faults.{NamesItsFault, after, first_of}
use Rattle.field_checker.proofs.faults.Faults.of.Given as goal

abbrev pub invariant-loop-item : goal.invariant-loop-item
invariant-loop-item l =
    let items = items_of l.names.items.now in
    (first_of l.faults ≡ after None (flat_map (λ item. faults_of items (item_of item)) (take l.item-index l.names.items.now)))
    × NamesItsFault items l.faults.first
