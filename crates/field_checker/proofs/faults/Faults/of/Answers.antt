use Rattle.std.proofs.Common.{◌≡◌, ◌∙◌, ap, sym, subst, None, ◌++◌, take}
use Rattle.std.specs.Prelude.{flat_map, option_map}
use Rattle.std.proofs.lemmas.List.{take_all}
use Rattle.std.proofs.lemmas.List.Folds.{flat_map-map}
use Rattle.lc_model.specs.Text.Meaning.{faults_of}
use Rattle.rule_parser.specs.Syntax.{item_of, items_of}
use Rattle.field_checker.specs.Fault.{fault_of}
use Rattle.field_checker.specs.Faults.{NamesItsFault, after, first_of}
use Rattle.field_checker.proofs.After.{of_more, nothing_met, both_met, after_all}
use Rattle.field_checker.proofs.Named.{among_items}
use Rattle.field_checker.proofs.faults.Faults.of.Goals as goal

pub loop-item-init : goal.loop-item-init
loop-item-init c =
    (ap (option_map fault_of) c.none-faults.ensures ∙ nothing_met None, subst (NamesItsFault (items_of c.args.names.now.items.now)) (sym c.none-faults.ensures) tt)

pub loop-item-preserved : goal.loop-item-preserved
loop-item-preserved c =
    let items = c.args.names.now.items.now in
    let i = c.loop-item.item-index in
    let item = c.item-item.result in
    let lt = c.loop-item-test.true in (
      both_met None (first_of c.loop-item.faults) (first_of c.check_item.new.self)
          (flat_map (λ item. faults_of (items_of items) (item_of item)) (take i items)) (faults_of (items_of items) (item_of item))
          c.loop-item.invariant.0 c.check_item.ensures.faults
          ∙ ap (after None)
          (ap (λ x. flat_map (λ item. faults_of (items_of items) (item_of item)) (take i items) ++ faults_of (items_of items) (item_of x)) c.item-item.is
          ∙ sym (of_more (λ item. faults_of (items_of items) (item_of item)) items i item lt)),
      c.check_item.ensures.names (items_of items) (among_items items i item lt c.item-item.is) c.loop-item.invariant.1,
    )

pub returns-clause-faults : goal.returns-clause-faults
returns-clause-faults c =
    let items = c.args.names.now.items.now in
    let all : take c.loop-item.item-index items ≡ items = take_all c.loop-item.item-index items c.loop-item-test.false in
    c.loop-item.invariant.0
    ∙ (ap (λ xs. after None (flat_map (λ item. faults_of (items_of items) (item_of item)) xs)) all
    ∙ (ap (after None) (sym (flat_map-map (faults_of (items_of items)) item_of items)) ∙ after_all _))
