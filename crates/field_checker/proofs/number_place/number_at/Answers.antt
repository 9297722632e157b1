use Rattle.std.proofs.Common.{◌≡◌, ◌∙◌, sym, subst, false}
use Rattle.std.specs.List.{list_any}
use Rattle.std.proofs.lemmas.List.{take_all}
use Rattle.rule_parser.specs.Syntax.{items_of}
use Rattle.field_checker.specs.Number.{stands_at}
use Rattle.field_checker.proofs.Placed.{no_number, none_more, none_stands}
use Rattle.field_checker.proofs.number_place.number_at.Goals as goal

pub loop-item-preserved : goal.loop-item-preserved
loop-item-preserved c = λ number.
    none_more (stands_at number c.args.at) c.deref-item-items.result.now c.loop-item.item-index c.item-item.result c.loop-item-test.true c.item-item.is
    (c.loop-item.invariant number) (c.number_of_item-number.ensures.absent (no_number c.number_of_item-number.result (sym c.is_some.ensures ∙ c.if-is_some.false)) number)

pub returns-clause-absent : goal.returns-clause-absent
returns-clause-absent c = λ none number.
    let items = c.deref-item-items.result.now in
    let all = take_all c.loop-item.item-index items c.loop-item-test.false ∙ c.deref-item-items.ensures.value in
    none_stands (items_of c.args.file.now.items.items) number c.args.at
    (subst (λ items. list_any (stands_at number c.args.at) (items_of items) ≡ false) all (c.loop-item.invariant number))
