-- What is left is what the lengths leave that are left.
use Rattle.std.proofs.Common.{◌≡◌, ◌+◌, length}
use Rattle.std.specs.List.{sum}
use Rattle.c_interface.proofs.texts.are_lengths.Given as goal

abbrev pub invariant-loop-others : goal.invariant-loop-others
invariant-loop-others l = sum l.lengths + l.left ≡ l.bytes + sum l.others

abbrev pub decreases-loop-others : goal.decreases-loop-others
decreases-loop-others l = length l.others
