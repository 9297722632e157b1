use Rattle.std.proofs.Common.{◌∙◌, sym}
use Rattle.field_checker.proofs.faults.Faults.refuse_outside.Goals as goal

pub returns-clause-names : goal.returns-clause-names
returns-clause-names c = λ items before named. c.refuse_if.ensures.names items before (λ refused. named (sym c.is_outside.ensures ∙ refused))
