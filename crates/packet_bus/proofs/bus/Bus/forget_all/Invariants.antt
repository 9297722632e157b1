use Rattle.std.proofs.Common.{◌≡◌, length}
use Rattle.lc_model.specs.Services.Bus.{pipe_at}
use Rattle.packet_bus.specs.Inside.{changed, without_subscriptions}
use Rattle.packet_bus.proofs.Emptied.{mids_of}
use Rattle.packet_bus.proofs.bus.Bus.forget_all.Given as goal

-- without its subscriptions the pipe is the same throughout
abbrev pub invariant-loop-mid : goal.invariant-loop-mid
invariant-loop-mid l = changed l.seat without_subscriptions l.self ≡ changed l.seat without_subscriptions l.initial.self

abbrev pub decreases-loop-mid : goal.decreases-loop-mid
decreases-loop-mid l = length (mids_of (pipe_at l.seat l.self))
