use Rattle.std.proofs.Common.{◌≡◌, ◌++◌, take, drop, map}
use Rattle.run_account.specs.Repeats.{row_in}
use Rattle.run_account.proofs.repeats.Repeats.count_rows.Given as goal

abbrev pub invariant-loop-row : goal.invariant-loop-row
invariant-loop-row l = take l.row-index l.rows ++ map (row_in l.self l.results) (drop l.row-index l.rows) ≡ map (row_in l.self l.results) l.initial.rows
