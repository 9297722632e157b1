use Rattle.bounded_history.proofs.Kept.{the_last_stands}
use Rattle.bounded_history.proofs.laws.the_last_stands.Goals as goal

pub returns : goal.returns
returns c = the_last_stands
