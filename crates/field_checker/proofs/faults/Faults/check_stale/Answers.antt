use Rattle.std.proofs.Common.{◌∙◌, ap, sym}
use Rattle.std.specs.Prelude.{option_map}
use Rattle.rule_parser.specs.Syntax.{number_of}
use Rattle.field_checker.specs.declared.number.RuleNumber.TheVariants.{Stale}
use Rattle.field_checker.proofs.Named.{stale_named}
use Rattle.field_checker.proofs.faults.Faults.check_stale.Goals as goal

pub returns-in-Some-clause-names : goal.returns-in-Some-clause-names
returns-in-Some-clause-names c = λ items field among is before.
    let written = is ∙ ap (option_map number_of) c.in-Some.is in
    c.refuse_if.ensures.names items before
    (λ refused. (Stale, stale_named items field (number_of c.in-Some.age) among written (sym c.is_negative.ensures ∙ refused)))
