use Rattle.field_checker.proofs.faults.Faults.check_comparison.Goals as goal

pub returns-in-Some-clause-names : goal.returns-in-Some-clause-names
returns-in-Some-clause-names c = λ items before. c.refuse_if.ensures.names items before (λ refused. tt)

pub returns-in-None-clause-names : goal.returns-in-None-clause-names
returns-in-None-clause-names c = λ items before. c.refuse_if-in-None.ensures.names items before (λ refused. tt)
