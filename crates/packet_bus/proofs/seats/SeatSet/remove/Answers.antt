use Rattle.std.proofs.Common.{◌∙◌, ap, List, Bool, false}
use Rattle.std.specs.Prelude.{slice_set}
use Rattle.packet_bus.proofs.Bits.{seats_without}
use Rattle.packet_bus.proofs.seats.SeatSet.remove.Goals as goal

pub returns : goal.returns
returns c =
    seats_without c.self.inside.bits c.index.result c.self.invariant c.index.ensures.below
    ∙ ap (λ (seats : List Bool). slice_set seats c.index.result false) c.self.view_is
    ∙ ap (λ seat. slice_set c.args.self.now seat false) c.index.ensures.value
