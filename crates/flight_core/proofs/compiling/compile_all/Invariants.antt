use Rattle.std.proofs.Common.{◌≡◌, ◌≤◌, length, take}
use Rattle.std.specs.Prelude.{vec_len, vec_capacity}
use Rattle.flight_core.specs.Compiled.{sources_of, AreAllCompiled}
use Rattle.flight_core.proofs.compiling.compile_all.Given as goal

-- those so far, and room for the others
abbrev pub invariant-loop-number : goal.invariant-loop-number
invariant-loop-number l =
    (vec_len l.pairs ≡ l.number) × (length l.texts ≤ vec_capacity l.pairs) × AreAllCompiled (take l.number (sources_of l.texts)) l.pairs.items
