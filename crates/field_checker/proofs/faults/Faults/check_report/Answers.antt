use Rattle.std.proofs.Common.{◌∙◌, ap}
use Rattle.std.specs.Prelude.{option_map}
use Rattle.rule_parser.specs.Syntax.{report_of}
use Rattle.field_checker.specs.declared.number.RuleNumber.TheVariants.{ReportPassive, ReportPassToFail, ReportFailToPass}
use Rattle.field_checker.proofs.Named.{rule_names}
use Rattle.field_checker.proofs.faults.Faults.check_report.Goals as goal

pub returns-in-Some-clause-names : goal.returns-in-Some-clause-names
returns-in-Some-clause-names c = λ items rule among is before.
    let written = is ∙ ap (option_map report_of) c.in-Some.is in
    let passive = c.refuse_number.ensures.names items before (rule_names items rule ReportPassive _ among (ap (option_map (λ r. r.passive)) written)) in
    let failing = c.refuse_number-in-Some.ensures.names items passive
    (rule_names items rule ReportPassToFail _ among (ap (option_map (λ r. r.pass_to_fail)) written)) in
    c.refuse_number-in-Some-2.ensures.names items failing (rule_names items rule ReportFailToPass _ among (ap (option_map (λ r. r.fail_to_pass)) written))
