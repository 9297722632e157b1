use Rattle.bounded_history.proofs.Kept.{the_greatest_stays}
use Rattle.bounded_history.proofs.laws.the_greatest_stays.Goals as goal

pub returns : goal.returns
returns c = the_greatest_stays
