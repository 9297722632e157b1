use Rattle.field_checker.proofs.faults.Faults.check_packet.Goals as goal

pub returns-clause-names : goal.returns-clause-names
returns-clause-names c = λ items before.
    let mid = c.refuse_outside.ensures.names items before (λ refused. tt) in
    let reserved = c.refuse_if.ensures.names items mid (λ refused. tt) in
    c.refuse_outside-2.ensures.names items reserved (λ refused. tt)
