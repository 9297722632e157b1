use Rattle.bounded_history.proofs.Kept.{the_least_stays}
use Rattle.bounded_history.proofs.laws.the_least_stays.Goals as goal

pub returns : goal.returns
returns c = the_least_stays
