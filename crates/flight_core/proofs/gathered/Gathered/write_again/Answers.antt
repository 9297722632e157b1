use Rattle.flight_core.proofs.HeldOutput.{grows_by_write}
use Rattle.flight_core.proofs.gathered.Gathered.write_again.Goals as goal

pub invariant_of-self-clause-grown : goal.invariant_of-self-clause-grown
invariant_of-self-clause-grown g c = grows_by_write _ _ _ _ c.write.result c.write.ensures.written c.write.ensures.fault c.give.new.self.grown
