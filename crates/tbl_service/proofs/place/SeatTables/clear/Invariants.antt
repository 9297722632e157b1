use Rattle.std.proofs.Common.{length, vec_capacity}
use Rattle.tbl_service.specs.Places.{IsPlace}
use Rattle.tbl_service.proofs.place.SeatTables.clear.Given as goal

abbrev pub invariant-loop-table : goal.invariant-loop-table
invariant-loop-table l = IsPlace l.self-inside.tables.items l.self-inside.spare.items (vec_capacity l.self-inside.tables) (vec_capacity l.self-inside.spare)

abbrev pub decreases-loop-table : goal.decreases-loop-table
decreases-loop-table l = length l.self-inside.tables.items
