use Rattle.field_checker.proofs.faults.Faults.check_mask.Goals as goal

pub returns-in-Some-clause-names : goal.returns-in-Some-clause-names
returns-in-Some-clause-names c = λ items before. c.refuse_outside.ensures.names items before (λ refused. tt)
