use Rattle.std.proofs.Common.{◌∙◌, ap₂}
use Rattle.packet_bus.specs.Seats.{together}
use Rattle.packet_bus.proofs.Bits.{seats_together}
use Rattle.packet_bus.proofs.seats.SeatSet.add.Goals as goal

pub returns : goal.returns
returns c = seats_together c.self.inside.bits c.others.inside.bits ∙ ap₂ together c.self.view_is c.others.view_is
