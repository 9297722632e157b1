use Rattle.std.proofs.Common.{◌≡◌, ◌∙◌, ap, sym, arith}
use Rattle.lc_model.specs.Services.Bus.{waiting_numbers, distinct_count}
use Rattle.packet_bus.specs.Slots.{used_slots}
use Rattle.packet_bus.specs.Inside.{waiting_slots}
use Rattle.packet_bus.proofs.Counted.{waiting_are, used_are}
use Rattle.packet_bus.proofs.bus.Bus.free.Goals as goal

pub returns : goal.returns
returns c =
    let used : used_slots c.self.inside.pool ≡ distinct_count (waiting_numbers c.args.self.now) =
    used_are c.self.inside.pool (waiting_slots c.self.inside.places.items) c.self.invariant.0.readers
    ∙ ap distinct_count (sym (waiting_are c.self.inside.pool c.self.inside.places.items) ∙ ap waiting_numbers c.self.view_is) in
    omega (arith, used, c.free.ensures)
