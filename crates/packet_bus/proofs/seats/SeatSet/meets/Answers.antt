use Rattle.std.proofs.Common.{◌∙◌, ap₂}
use Rattle.packet_bus.specs.Seats.{meet}
use Rattle.packet_bus.proofs.Bits.{sets_meet}
use Rattle.packet_bus.proofs.seats.SeatSet.meets.Goals as goal

pub returns : goal.returns
returns c = sets_meet c.self.inside.bits c.other.inside.bits c.self.invariant ∙ ap₂ meet c.self.view_is c.other.view_is
