use Rattle.std.proofs.Common.{refl}
use Rattle.event_service.specs.Filters.{asked_once}
use Rattle.event_service.proofs.FilterLists.{written, own_ids_with}
use Rattle.event_service.proofs.filter.Filters.ask.Goals as goal

pub invariant_of-self : goal.invariant_of-self
invariant_of-self c =
    own_ids_with asked_once c.args.id c.self.inside.list.items _ (λ filter. refl)
    (written asked_once c.args.id c.self.inside.list.items c.as_mut_slice.result.now c.ask_of.new.filters c.as_mut_slice.ensures.value c.ask_of.ensures.after) c.self.invariant
