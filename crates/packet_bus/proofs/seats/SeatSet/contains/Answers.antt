use Rattle.std.proofs.Common.{◌∙◌, ap₂, List, Bool, false}
use Rattle.std.specs.Prelude.{slice_index_or}
use Rattle.packet_bus.proofs.Bits.{seat_inside}
use Rattle.packet_bus.proofs.seats.SeatSet.contains.Goals as goal

pub returns-clause-inside : goal.returns-clause-inside
returns-clause-inside c =
    seat_inside c.self.inside.bits c.index.result c.self.invariant c.index.ensures.below
    ∙ ap₂ (λ (seats : List Bool) seat. slice_index_or seats seat false) c.self.view_is c.index.ensures.value
