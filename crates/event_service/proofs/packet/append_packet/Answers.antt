use Rattle.std.proofs.Common.{◌∙◌, ◌++◌, ap, take, List, ℕ, arith}
use Rattle.std.proofs.lemmas.Grind.{common_steps}
use Rattle.event_service.proofs.Behind.{laid_behind}
use Rattle.event_service.proofs.packet.append_packet.Goals as goal

pub returns-clause-packet : goal.returns-clause-packet
returns-clause-packet c =
    laid_behind c.args.at 168 c.make_place.new.bytes.len c.deref_mut.result.now c.lay.new.bytes _ _ (take c.args.at c.args.out.now.items)
    (grind (arith, common_steps, c.lay.ensures.size, c.fill.ensures.len, c.make_place.ensures.there, c.deref_mut.ensures.len, c.deref_mut.ensures.value))
    (grind (arith, c.make_place.ensures.there, c.deref_mut.ensures.value)) (grind (arith, c.make_place.ensures.there, c.make_place.new.bytes.ok.0))
    (ap (take c.args.at) c.deref_mut.ensures.value ∙ c.make_place.ensures.items)
    ∙ ap (λ (packet : List ℕ). take c.args.at c.args.out.now.items ++ packet) c.lay.ensures.packet
