use Rattle.std.proofs.Common.{◌≡◌, ◌-◌, ◌≤◌, length, take}
use Rattle.std.specs.Io.KnownBytes.{Appends}
use Rattle.lc_model.specs.Device.{Sink, retried_by_call}
use Rattle.lc_model.proofs.device.write_all.Given as goal

abbrev pub invariant-loop-sent : goal.invariant-loop-sent
invariant-loop-sent g l =
    let initial : Sink = g.W.ByteSink.sink l.initial.writer in
    let now : Sink = g.W.ByteSink.sink l.writer in
    (l.sent ≤ length l.bytes) × Appends initial.gained now.gained (take l.sent l.bytes)
    × (now.failed ≡ initial.failed)
    × (retried_by_call now.failed now.retried ≡ retried_by_call initial.failed initial.retried)

abbrev pub decreases-loop-sent : goal.decreases-loop-sent
decreases-loop-sent g l = length l.bytes - l.sent
