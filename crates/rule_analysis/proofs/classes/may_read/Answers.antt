use Rattle.std.proofs.Common.{sym}
use Rattle.rule_analysis.proofs.FieldLaws.{other_number}
use Rattle.rule_analysis.proofs.classes.may_read.Goals as goal

pub returns-in-Some : goal.returns-in-Some
returns-in-Some c = λ apart.
    other_number c.args.fields.now c.args.term.now c.args.field c.in-Some.field.now c.in-Some.ensures.lookup.0 c.in-Some.ensures.lookup.1
    (rw (sym c.reads.ensures) apart)
