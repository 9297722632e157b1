use Rattle.field_checker.proofs.faults.Faults.refuse_if.Goals as goal

pub returns-then-refused-clause-names : goal.returns-then-refused-clause-names
returns-then-refused-clause-names c = λ items before named. c.meet.ensures.names items before (named c.if-refused.true)
