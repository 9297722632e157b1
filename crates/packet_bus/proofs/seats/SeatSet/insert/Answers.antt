use Rattle.std.proofs.Common.{◌∙◌, ap, List, Bool, true}
use Rattle.std.specs.Prelude.{slice_set}
use Rattle.packet_bus.proofs.Bits.{seats_with}
use Rattle.packet_bus.proofs.seats.SeatSet.insert.Goals as goal

pub returns : goal.returns
returns c =
    seats_with c.self.inside.bits c.index.result c.self.invariant c.index.ensures.below
    ∙ ap (λ (seats : List Bool). slice_set seats c.index.result true) c.self.view_is
    ∙ ap (λ seat. slice_set c.args.self.now seat true) c.index.ensures.value
