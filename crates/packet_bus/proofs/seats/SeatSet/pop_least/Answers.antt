use Rattle.std.proofs.Common.{◌∙◌, ◌<◌, ap, ap₂, sym, arith, List, Bool, false}
use Rattle.std.specs.Prelude.{Some, slice_set}
use Rattle.std.specs.List.{position_from}
use Rattle.packet_bus.specs.Seats.{is_in}
use Rattle.packet_bus.proofs.Bits.{least_seat, seats_without_least}
use Rattle.packet_bus.proofs.seats.SeatSet.pop_least.Goals as goal

pub returns-clause-least : goal.returns-clause-least
returns-clause-least c =
    let some : 0 < c.self.inside.bits = omega arith in
    ap Some c.new.ensures ∙ least_seat c.self.inside.bits c.self.invariant some ∙ ap (position_from is_in 0) c.self.view_is

pub returns-clause-after : goal.returns-clause-after
returns-clause-after c =
    let some : 0 < c.self.inside.bits = omega arith in
    seats_without_least c.self.inside.bits c.self.invariant some
    ∙ ap₂ (λ (seats : List Bool) seat. slice_set seats seat false) c.self.view_is (sym c.new.ensures)
