use Rattle.std.proofs.Common.{rules, subst, sym}
use Rattle.rule_analysis.specs.Fields.{HasField}
use Rattle.rule_analysis.proofs.FieldLaws.{has_more, has_new, has_by_number}
use Rattle.rule_analysis.proofs.FieldLists.{field_more}
use Rattle.rule_analysis.proofs.fields.add.Goals as goal

pub returns-in_ok-push-clause-there : goal.returns-in_ok-push-clause-there
returns-in_ok-push-clause-there c =
    subst (λ items. HasField items c.args.term.now) (sym c.in_ok-push.ensures.items)
    (has_new c.args.fields.now.items c.field_of.result c.args.term.now c.field_of.ensures.reads)

pub returns-in_ok-push-clause-others : goal.returns-in_ok-push-clause-others
returns-in_ok-push-clause-others c = λ t has.
    subst (λ items. HasField items t) (sym c.in_ok-push.ensures.items) (has_more c.args.fields.now.items _ t has)

pub returns-else-number-len-clause-there : goal.returns-else-number-len-clause-there
returns-else-number-len-clause-there c =
    has_by_number c.deref.result.now c.args.fields.now.items c.args.term.now c.number.result c.len.result c.deref.ensures.value c.number.ensures
    (search rules) c.if-number-len.false

pub returns-in_ok-push-clause-exact : goal.returns-in_ok-push-clause-exact
returns-in_ok-push-clause-exact c = λ terms there so_far.
    field_more terms c.args.term.now c.deref.result.now c.args.fields.now.items c.push.new.self.items c.field_of.result c.number.result c.len.result
    c.deref.ensures.value c.number.ensures (search rules) c.if-number-len.true c.field_of.ensures.exact c.in_ok-push.ensures.items there so_far
