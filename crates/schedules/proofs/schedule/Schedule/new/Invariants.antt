-- So many slots are there, all without entries.
use Rattle.std.proofs.Common.{◌≡◌, ◌≤◌, [], replicate, vec_capacity}
use Rattle.schedules.proofs.schedule.Schedule.new.Given as goal

abbrev pub invariant-loop : goal.invariant-loop
invariant-loop l = record { empty : l.empty.items ≡ replicate l.counter []; room : l.slots ≤ vec_capacity l.empty }
