use Rattle.flight_core.proofs.Cutting.{begins, comes, goes}
use Rattle.flight_core.proofs.laws.records_are_handed_out.Goals as goal

pub returns : goal.returns
returns c = record { begins = begins; comes = comes; goes = goes }
