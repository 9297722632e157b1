use Rattle.field_checker.proofs.faults.Faults.check_name.Goals as goal

pub returns-clause-names : goal.returns-clause-names
returns-clause-names c = λ items before. c.refuse_if.ensures.names items before (λ refused. tt)
