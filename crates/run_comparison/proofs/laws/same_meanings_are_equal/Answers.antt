use Rattle.run_comparison.proofs.Same.{same_are_equal}
use Rattle.run_comparison.proofs.laws.same_meanings_are_equal.Goals as goal

pub returns : goal.returns
returns c = same_are_equal
