use Rattle.std.proofs.Common.{◌≡◌, length}
use Rattle.lc_model.specs.Services.Bus.{pipe_at}
use Rattle.packet_bus.specs.Inside.{changed, without_packets}
use Rattle.packet_bus.proofs.Emptied.{packets_of}
use Rattle.packet_bus.proofs.bus.Bus.discard_all.Given as goal

-- without its packets the pipe is the same throughout
abbrev pub invariant-loop-seat : goal.invariant-loop-seat
invariant-loop-seat l = changed l.seat without_packets l.self ≡ changed l.seat without_packets l.initial.self

abbrev pub decreases-loop-seat : goal.decreases-loop-seat
decreases-loop-seat l = length (packets_of (pipe_at l.seat l.self))
