use Rattle.bounded_history.proofs.Kept.{no_state_is_lost}
use Rattle.bounded_history.proofs.laws.no_state_is_lost.Goals as goal

pub returns : goal.returns
returns c = no_state_is_lost
