use Rattle.std.proofs.Common.{◌≡◌, ◌++◌, take, drop, map}
use Rattle.lc_model.specs.Kept.Summary.{Filter}
use Rattle.event_service.proofs.filter.reset_all.Given as goal

abbrev pub invariant-loop-filter : goal.invariant-loop-filter
invariant-loop-filter l =
    take l.filter-index l.filters ++ map (λ (filter : Filter). record filter { count = 0 }) (drop l.filter-index l.filters)
    ≡ map (λ (filter : Filter). record filter { count = 0 }) l.initial.filters
