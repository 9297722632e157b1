use Rattle.std.proofs.Common.{◌≡◌, ◌++◌, drop}
use Rattle.run_comparison.specs.Order.{only_in}
use Rattle.run_comparison.proofs.order.only_in.Given as goal

abbrev pub invariant-loop-one : goal.invariant-loop-one
invariant-loop-one l = l.only.items ++ only_in (drop l.one-index l.these) l.left.items ≡ only_in l.fn.these l.fn.those
