use Rattle.std.proofs.Common.{rules, ◌∙◌, sym, subst}
use Rattle.std.specs.List.{AllByRecursion}
use Rattle.rule_analysis.specs.Classes.{RepresentAll}
use Rattle.rule_analysis.specs.Search.{AreRepresented}
use Rattle.rule_analysis.specs.Steps.{AreApart, AreNotMany}
use Rattle.rule_analysis.proofs.StepLaws.{not_many_more}
use Rattle.rule_analysis.specs.Fields.{field_number}
use Rattle.rule_analysis.proofs.FieldLaws.{mask_by_number}
use Rattle.rule_analysis.proofs.ClassLaws.{filtered, represent_readers, row_more}
use Rattle.rule_analysis.proofs.classes.rows_of.Goals as goal

pub candidates-requires : goal.candidates-requires
candidates-requires c =
    subst (AllByRecursion _) (sym (c.deref.ensures.value ∙ c.in_ok-own.ensures))
    (filtered (field_number c.args.fields.now) c.loop-field.field _ c.args.terms.now
    (λ t same. mask_by_number c.args.fields.now t c.loop-field.field _ same c.loop-field-test.true))

pub loop-field-preserved : goal.loop-field-preserved
loop-field-preserved c = record {
  represent = subst (AreRepresented (field_number c.args.fields.now) c.args.terms.now) (sym c.in_ok-push.ensures.items)
      (row_more (field_number c.args.fields.now) c.args.terms.now c.loop-field.rows.items c.in_ok-candidates.field-0 c.loop-field.field
      c.loop-field.invariant.each c.loop-field.invariant.represent
      (represent_readers (field_number c.args.fields.now) c.loop-field.field c.args.terms.now c.in_ok-candidates.field-0.items
      (subst (λ own. RepresentAll own c.in_ok-candidates.field-0.items) (c.deref.ensures.value ∙ c.in_ok-own.ensures) c.in_ok-candidates.ensures.represent)));
  few = subst (AreNotMany (field_number c.args.fields.now) c.args.terms.now) (sym c.in_ok-push.ensures.items)
      (not_many_more (field_number c.args.fields.now) c.args.terms.now c.loop-field.rows.items c.in_ok-candidates.field-0 c.loop-field.field
      c.loop-field.invariant.each c.loop-field.invariant.few
      (subst (λ own. AreApart own c.in_ok-candidates.field-0.items) (c.deref.ensures.value ∙ c.in_ok-own.ensures) c.in_ok-candidates.ensures.apart));
  each = search rules;
}
