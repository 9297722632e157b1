use Rattle.std.proofs.Common.{◌∙◌, ap}
use Rattle.std.specs.List.{position_from}
use Rattle.lc_model.specs.Kept.Executive.{ready_seat}
use Rattle.lc_model.specs.Services.Bus.{Bus, seen}
use Rattle.packet_bus.specs.Seats.{is_in}
use Rattle.packet_bus.proofs.Ready.{least_is}
use Rattle.packet_bus.proofs.bus.Bus.least_ready.Goals as goal

pub returns-clause-least : goal.returns-clause-least
returns-clause-least c =
    c.least.ensures
    ∙ ap (position_from is_in 0) c.self.invariant.0.waits
    ∙ least_is c.self.inside.pool c.self.inside.places.items
    ∙ ap (λ (bus : Bus). ready_seat (seen bus)) c.self.view_is
