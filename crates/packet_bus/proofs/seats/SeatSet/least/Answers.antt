use Rattle.std.proofs.Common.{◌∙◌, ap, arith, ◌<◌}
use Rattle.std.specs.Prelude.{Some}
use Rattle.std.specs.List.{position_from}
use Rattle.packet_bus.specs.Seats.{is_in}
use Rattle.packet_bus.proofs.Bits.{least_seat}
use Rattle.packet_bus.proofs.seats.SeatSet.least.Goals as goal

pub returns : goal.returns
returns c =
    let some : 0 < c.self.inside.bits = omega arith in
    ap Some c.new.ensures ∙ least_seat c.self.inside.bits c.self.invariant some ∙ ap (position_from is_in 0) c.self.view_is
