-- The meanings so far, and those of the packets that are left, are those of all.
use Rattle.std.proofs.Common.{◌≡◌, ◌++◌, length}
use Rattle.run_comparison.specs.Meaning.{all_held, meanings_in}
use Rattle.run_comparison.proofs.meaning.meanings_of.Given as goal

abbrev pub invariant-loop-packet : goal.invariant-loop-packet
invariant-loop-packet l = all_held l.all.items ++ meanings_in l.sort l.rest ≡ meanings_in l.sort l.fn.packets

abbrev pub decreases-loop-packet : goal.decreases-loop-packet
decreases-loop-packet l = length l.rest
