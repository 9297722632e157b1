use Rattle.field_checker.proofs.faults.Faults.+check_condition.Goals as goal

pub returns-in-And-clause-names : goal.returns-in-And-clause-names
returns-in-And-clause-names t c = λ items before. c.check_condition-in-And-2.ensures.names items (c.check_condition-in-And.ensures.names items before)
