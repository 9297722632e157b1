use Rattle.std.proofs.Common.{◌≡◌, drop}
use Rattle.run_comparison.specs.Meaning.{all_held}
use Rattle.run_comparison.specs.Order.{are_same}
use Rattle.run_comparison.proofs.order.are_same.Given as goal

abbrev pub invariant-loop-at : goal.invariant-loop-at
invariant-loop-at l = are_same (all_held (drop l.at l.these)) (all_held (drop l.at l.those)) ≡ are_same (all_held l.these) (all_held l.those)
