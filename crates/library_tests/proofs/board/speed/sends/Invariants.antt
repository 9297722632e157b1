-- There is room for an event's packet.
use Rattle.std.proofs.Common.{◌≤◌}
use Rattle.std.specs.Prelude.{vec_capacity}
use Rattle.library_tests.proofs.board.speed.sends.Given as goal

abbrev pub invariant-loop : goal.invariant-loop
invariant-loop g l = record {
  room : 168 ≤ vec_capacity l.out;
}
