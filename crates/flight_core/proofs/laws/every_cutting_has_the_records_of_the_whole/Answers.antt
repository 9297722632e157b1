use Rattle.flight_core.proofs.Cutting.{every_cutting}
use Rattle.flight_core.proofs.laws.every_cutting_has_the_records_of_the_whole.Goals as goal

pub returns : goal.returns
returns c = every_cutting
