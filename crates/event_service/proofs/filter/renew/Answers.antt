use Rattle.std.proofs.Common.{sym}
use Rattle.event_service.specs.Filters.{renewed}
use Rattle.event_service.proofs.FilterLists.{first, first_is_there, replaced, none, none_changes}
use Rattle.event_service.proofs.filter.renew.Goals as goal

pub returns-in-None-clause-found : goal.returns-in-None-clause-found
returns-in-None-clause-found c = sym (none c.args.id c.args.filters.now (sym c.in-None.ensures.place))

pub returns-in-None-clause-after : goal.returns-in-None-clause-after
returns-in-None-clause-after c = none_changes (renewed c.args.mask) c.args.id c.args.filters.now (none c.args.id c.args.filters.now (sym c.in-None.ensures.place))

pub returns-in-Some-clause-found : goal.returns-in-Some-clause-found
returns-in-Some-clause-found c = sym (first_is_there c.args.id c.in-Some.place c.args.filters.now (first c.args.id c.in-Some.place c.args.filters.now (sym c.in-Some.ensures.place)))

pub returns-in-Some-clause-after : goal.returns-in-Some-clause-after
returns-in-Some-clause-after c =
    replaced c.args.id c.in-Some.place c.args.mask c.args.filters.now c.new.result c.requires.own_ids
    (first c.args.id c.in-Some.place c.args.filters.now (sym c.in-Some.ensures.place)) c.new.ensures
