use Rattle.std.proofs.Common.{refl}
use Rattle.rule_parser.specs.Syntax.{rule_of}
use Rattle.field_checker.specs.declared.number.RuleNumber.TheVariants.{Fails, Sequence, EventId}
use Rattle.field_checker.proofs.Named.{rule_names}
use Rattle.field_checker.proofs.faults.Faults.check_rule.Goals as goal

pub returns-clause-names : goal.returns-clause-names
returns-clause-names c = λ items among before.
    let rule = rule_of c.args.rule.now in
    let fails = c.refuse_number.ensures.names items before (rule_names items rule Fails _ among refl) in
    let sequence = c.refuse_number-2.ensures.names items fails (rule_names items rule Sequence _ among refl) in
    let event = c.refuse_number-3.ensures.names items sequence (rule_names items rule EventId _ among refl) in
    c.check_condition.ensures.names items (c.check_report.ensures.names items rule among refl event)
