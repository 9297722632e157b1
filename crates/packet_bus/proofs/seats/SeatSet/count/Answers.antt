use Rattle.std.proofs.Common.{◌∙◌, ap, count_by}
use Rattle.packet_bus.specs.Seats.{is_in}
use Rattle.packet_bus.proofs.Bits.{seats_counted}
use Rattle.packet_bus.proofs.seats.SeatSet.count.Goals as goal

pub returns : goal.returns
returns c = seats_counted c.self.inside.bits c.self.invariant ∙ ap (count_by is_in) c.self.view_is
