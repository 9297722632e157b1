use Rattle.std.proofs.Common.{◌∙◌, ap, arith}
use Rattle.std.specs.Prelude.{slice_set}
use Rattle.std.proofs.lemmas.Grind.{common_steps}
use Rattle.packet_bus.proofs.Slots.{changed_all}
use Rattle.packet_bus.proofs.pool.Pool.take.Goals as goal

pub returns-clause-after : goal.returns-clause-after
returns-clause-after c =
    let change = changed_all c.self.inside.slots.items c.args.self.now c.args.number c.release.new.self c.self.view_is c.requires.waiting in
    change.1 ∙ ap (slice_set c.args.self.now c.args.number) (grind (arith, common_steps, change.0, c.release.ensures.after, c.index_mut-slot.ensures.value))
