use Rattle.std.proofs.Common.{◌≡◌, ◌∙◌, ap, sym, subst, Some, None}
use Rattle.std.specs.Prelude.{option_map}
use Rattle.lc_model.specs.Text.Meaning.{first_fault, rules_in}
use Rattle.rule_parser.specs.Syntax.{items_of}
use Rattle.field_checker.specs.Fault.{fault_of}
use Rattle.field_checker.specs.Faults.{NamesItsFault}
use Rattle.field_checker.specs.Number.{NamesItsNumber}
use Rattle.field_checker.proofs.Verdicts.{answered, met, none_first}
use Rattle.field_checker.proofs.checker.check.Goals as goal

pub returns-in-Some-clause-refused : goal.returns-in-Some-clause-refused
returns-in-Some-clause-refused c =
    let whole = c.in_ok-names.ensures ∙ ap items_of c.deref.ensures.value in
    answered _ c.in-Some.fault c.into.result c.into.ensures (met _ _ c.of.result.first (Some c.in-Some.fault) whole c.of.ensures.faults c.in-Some.is)

pub returns-in-Some-clause-accepts : goal.returns-in-Some-clause-accepts
returns-in-Some-clause-accepts c = λ meant means.
    let whole = c.in_ok-names.ensures ∙ ap items_of c.deref.ensures.value in
    let none : None ≡ Some (fault_of c.in-Some.fault) =
    sym (ap first_fault means.accepted) ∙ met _ _ c.of.result.first (Some c.in-Some.fault) whole c.of.ensures.faults c.in-Some.is in
    absurd (cc none)

pub returns-in-Some-clause-refuses : goal.returns-in-Some-clause-refuses
returns-in-Some-clause-refuses c = λ fault first.
    let whole = c.in_ok-names.ensures ∙ ap items_of c.deref.ensures.value in
    answered (Some fault) c.in-Some.fault c.into.result c.into.ensures
    (sym first ∙ met _ _ c.of.result.first (Some c.in-Some.fault) whole c.of.ensures.faults c.in-Some.is)

pub rules-requires : goal.rules-requires
rules-requires c = none_first _ (sym c.of.ensures.faults ∙ ap (option_map fault_of) c.in_default.is)

pub returns-clause-means : goal.returns-clause-means
returns-clause-means c =
    let whole = c.in_ok-names.ensures ∙ ap items_of c.deref.ensures.value in record {
      accepted = none_first _ (met _ _ c.of.result.first None whole c.of.ensures.faults c.in_default.is);
      meant = ap (λ items. rules_in items items) (sym whole) ∙ (c.in_ok-rules.ensures ∙ ap Some (sym c.from_vec.ensures));
    }

pub returns-clause-refuses : goal.returns-clause-refuses
returns-clause-refuses c = λ fault first.
    let whole = c.in_ok-names.ensures ∙ ap items_of c.deref.ensures.value in
    let none : None ≡ Some fault = sym (met _ _ c.of.result.first None whole c.of.ensures.faults c.in_default.is) ∙ first in
    absurd (cc none)

pub returns-in-Some-clause-named : goal.returns-in-Some-clause-named
returns-in-Some-clause-named c =
    let whole = c.in_ok-names.ensures ∙ ap items_of c.deref.ensures.value in
    let named = subst (NamesItsFault (items_of c.in_ok-names.names.items.now)) c.in-Some.is c.of.ensures.names in
    subst (λ items. NamesItsNumber items c.into.result) whole (subst (NamesItsNumber (items_of c.in_ok-names.names.items.now)) (sym c.into.ensures) named)
