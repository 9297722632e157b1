use Rattle.std.proofs.Common.{refl}
use Rattle.rule_parser.specs.Syntax.{field_of}
use Rattle.field_checker.proofs.faults.Faults.check_field.Goals as goal

pub returns-clause-names : goal.returns-clause-names
returns-clause-names c = λ items among before.
    let packet = c.refuse_if.ensures.names items before (λ refused. tt) in
    let place = c.refuse_if-2.ensures.names items packet (λ refused. tt) in
    c.check_stale.ensures.names items (field_of c.args.field.now) among refl (c.check_mask.ensures.names items place)
