use Rattle.flight_core.proofs.HeldOutput.{grows}
use Rattle.flight_core.proofs.gathered.Gathered.give.Goals as goal

pub invariant_of-self-clause-grown : goal.invariant_of-self-clause-grown
invariant_of-self-clause-grown g c = grows _ _ _ _ c.args.self.now.grown c.in-Ok.ensures.sent

pub invariant_of-self-in-Err-clause-grown : goal.invariant_of-self-in-Err-clause-grown
invariant_of-self-in-Err-clause-grown g c = grows _ _ _ _ c.args.self.now.grown c.in-Err.ensures.cut.gains
