use Rattle.std.proofs.Common.{◌∙◌, ap, sym}
use Rattle.std.specs.Prelude.{is_some}
use Rattle.packet_bus.proofs.Places.{in_places, pipe_is, has_queue}
use Rattle.packet_bus.proofs.bus.Bus.has_pipe.Goals as goal

pub returns-clause-has : goal.returns-clause-has
returns-clause-has c =
    c.is_open.ensures
    ∙ sym (has_queue c.self.inside.pool c.index-2.result.now)
    ∙ ap is_some
    (pipe_is c.self.inside.pool c.self.inside.places.items c.args.self.now c.args.seat c.index.result c.index-2.result.now
    (in_places _ _ _ _ _ c.self.invariant.0 c.index.result c.index.ensures.below) c.index-2.ensures c.index.ensures.value c.self.view_is)
