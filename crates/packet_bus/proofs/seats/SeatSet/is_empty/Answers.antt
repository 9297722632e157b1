use Rattle.std.proofs.Common.{◌∙◌, ◌==◌, ap, count_by, List, Bool}
use Rattle.packet_bus.specs.Seats.{is_in}
use Rattle.packet_bus.proofs.Bits.{no_seats}
use Rattle.packet_bus.proofs.seats.SeatSet.is_empty.Goals as goal

pub returns : goal.returns
returns c = no_seats c.self.inside.bits c.self.invariant ∙ ap (λ (seats : List Bool). count_by is_in seats == 0) c.self.view_is
