use Rattle.bounded_history.proofs.Grown.{told_again_is_told}
use Rattle.bounded_history.proofs.laws.told_again_is_told.Goals as goal

pub returns : goal.returns
returns c = told_again_is_told
