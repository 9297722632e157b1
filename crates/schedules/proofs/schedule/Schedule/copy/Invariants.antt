-- The slots so far are copied.
use Rattle.std.proofs.Common.{◌≡◌, ◌≤◌, length, take, vec_capacity}
use Rattle.schedules.proofs.schedule.Schedule.copy.Given as goal

abbrev pub invariant-loop-slot : goal.invariant-loop-slot
invariant-loop-slot l = record { copied : l.slots.items ≡ take l.slot-index l.self; room : length l.self ≤ vec_capacity l.slots }
