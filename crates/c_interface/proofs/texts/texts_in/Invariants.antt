-- The texts so far, and those of what is left, are all.
use Rattle.std.proofs.Common.{◌≡◌, ◌++◌, length}
use Rattle.flight_core.specs.Compiled.{sources_of}
use Rattle.std.specs.List.{sum}
use Rattle.c_interface.specs.Texts.{texts_in}
use Rattle.c_interface.proofs.texts.texts_in.Given as goal

abbrev pub invariant-loop-others : goal.invariant-loop-others
invariant-loop-others l =
    (sources_of l.texts.items ++ texts_in l.left l.others ≡ texts_in l.bytes l.lengths) × (sum l.others ≡ length l.left)

abbrev pub decreases-loop-others : goal.decreases-loop-others
decreases-loop-others l = length l.others
