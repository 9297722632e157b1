use Rattle.std.proofs.Common.{◌∙◌, ap, arith}
use Rattle.std.specs.Prelude.{slice_set}
use Rattle.std.proofs.lemmas.Grind.{common_steps}
use Rattle.packet_bus.proofs.Slots.{changed_all}
use Rattle.packet_bus.proofs.pool.Pool.put.Goals as goal

pub returns : goal.returns
returns c =
    let change = changed_all c.self.inside.slots.items c.args.self.now c.args.number c.put.new.self c.self.view_is c.requires.taken in
    change.1 ∙ ap (slice_set c.args.self.now c.args.number) (grind (arith, common_steps, change.0, c.put.ensures, c.index_mut.ensures.value))
