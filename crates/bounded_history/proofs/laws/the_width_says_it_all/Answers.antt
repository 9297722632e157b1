use Rattle.bounded_history.proofs.Kept.{the_width_says_it_all}
use Rattle.bounded_history.proofs.laws.the_width_says_it_all.Goals as goal

pub returns : goal.returns
returns c = the_width_says_it_all
