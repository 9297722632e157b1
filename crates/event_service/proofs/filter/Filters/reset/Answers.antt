use Rattle.std.proofs.Common.{refl}
use Rattle.lc_model.specs.Kept.Summary.{Filter}
use Rattle.event_service.proofs.FilterLists.{written_over, own_ids_of_all}
use Rattle.event_service.proofs.filter.Filters.reset.Goals as goal

pub invariant_of-self : goal.invariant_of-self
invariant_of-self c =
    own_ids_of_all (λ (filter : Filter). record filter { count = 0 }) c.self.inside.list.items _ (λ filter. refl)
    (written_over (λ (filter : Filter). record filter { count = 0 }) c.self.inside.list.items c.as_mut_slice.result.now c.reset_all.new.filters c.as_mut_slice.ensures.value c.reset_all.ensures)
    c.self.invariant
