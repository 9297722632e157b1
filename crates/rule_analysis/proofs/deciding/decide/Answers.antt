use Rattle.std.proofs.Common.{rules, subst}
use Rattle.lc_model.specs.Condition.{condition_of}
use Rattle.rule_analysis.specs.Findings.{IsSought}
use Rattle.rule_analysis.proofs.Judged.{handed_on, held}
use Rattle.rule_analysis.proofs.deciding.decide.Goals as goal

pub find-requires-clause-represented : goal.find-requires-clause-represented
find-requires-clause-represented c =
    handed_on c.deref-2.result.now c.deref-4.result.now c.deref-3.result.now c.deref-5.result.now c.in_ok-rows.rows.items c.deref-6.result.now
    (search rules) (search rules) (search rules) c.in_ok-rows.ensures.represent

pub returns-in-Found-default : goal.returns-in-Found-default
returns-in-Found-default c =
    held (condition_of c.args.cond.now) c.in_ok-fields.fields.items c.deref-5.result.now c.deref.result.now c.in_ok-bits.field-0.1.items
    (search rules) (search rules) c.in_ok-fields.ensures.exact
    (subst (λ outcome. IsSought (condition_of c.args.cond.now) c.deref-5.result.now c.args.steps.now outcome c.in_ok-bits.field-0.1.items) c.in-Found-default.is-0
    c.in_ok-bits.ensures)
