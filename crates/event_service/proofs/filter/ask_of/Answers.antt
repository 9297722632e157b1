use Rattle.std.proofs.Common.{ap, sym, ◌∙◌}
use Rattle.lc_model.specs.Kept.Next.{is_unfiltered}
use Rattle.event_service.specs.Filters.{asked_once}
use Rattle.event_service.proofs.FilterLists.{first, first_is_found, first_changes, none, none_is_found, none_changes}
use Rattle.event_service.proofs.filter.ask_of.Goals as goal

pub returns-in-None-clause-open : goal.returns-in-None-clause-open
returns-in-None-clause-open c = sym (ap is_unfiltered (none_is_found c.args.id c.args.filters.now (none c.args.id c.args.filters.now (sym c.in-None.ensures.place))))

pub returns-in-None-clause-after : goal.returns-in-None-clause-after
returns-in-None-clause-after c = none_changes asked_once c.args.id c.args.filters.now (none c.args.id c.args.filters.now (sym c.in-None.ensures.place))

pub returns-in-Some-clause-open : goal.returns-in-Some-clause-open
returns-in-Some-clause-open c =
    c.ask.ensures.open
    ∙ sym (ap is_unfiltered (first_is_found c.args.id c.in-Some.place c.args.filters.now c.index-filters-place.result (first c.args.id c.in-Some.place c.args.filters.now (sym c.in-Some.ensures.place))))

pub returns-in-Some-clause-after : goal.returns-in-Some-clause-after
returns-in-Some-clause-after c =
    first_changes asked_once c.args.id c.in-Some.place c.args.filters.now c.index-filters-place.result _ c.requires.own_ids
    (first c.args.id c.in-Some.place c.args.filters.now (sym c.in-Some.ensures.place)) c.ask.ensures.after
