use Rattle.std.proofs.Common.{◌≡◌, ◌++◌, length}
use Rattle.diagnostics.specs.Character.{shown}
use Rattle.diagnostics.proofs.columns.shown_columns.Given as goal

abbrev pub invariant-loop-rest : goal.invariant-loop-rest
invariant-loop-rest l = l.columns.items ++ shown l.rest ≡ shown l.bytes

abbrev pub decreases-loop-rest : goal.decreases-loop-rest
decreases-loop-rest l = length l.rest
