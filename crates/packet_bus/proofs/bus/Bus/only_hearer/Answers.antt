use Rattle.std.proofs.Common.{◌∙◌, ap, sym, refl, ◌==◌, List, Bool, count_by}
use Rattle.std.specs.Prelude.{None, if◌then◌else◌}
use Rattle.std.specs.List.{position_from}
use Rattle.packet_bus.specs.Seats.{is_in}
use Rattle.packet_bus.specs.Hearers.{only_hearer}
use Rattle.packet_bus.proofs.Hearers.{only_is}
use Rattle.packet_bus.proofs.Publishing.{hearers_are}
use Rattle.packet_bus.proofs.bus.Bus.only_hearer.Goals as goal

pub returns-clause-only : goal.returns-clause-only
returns-clause-only c =
    let hearers = hearers_are _ _ _ _ _ c.self.invariant.0 c.args.packet.now c.judged_message_id.result c.index.result.now c.index.result.now (sym c.requires.good) c.judged_message_id.ensures c.index.ensures refl in
    c.only.ensures
    ∙ ap (λ (row : List Bool). if count_by is_in row == 1 then position_from is_in 0 row else None) hearers
    ∙ only_is c.self.inside.pool c.args.packet.now c.self.inside.places.items
    ∙ ap (only_hearer c.args.packet.now) c.self.view_is
