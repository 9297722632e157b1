use Rattle.std.proofs.Common.{rules, sym, ◌∙◌}
use Rattle.event_service.proofs.FilterLists.{hinted}
use Rattle.event_service.proofs.filter.find.Goals as goal

pub returns-then-is_of-clause-place : goal.returns-then-is_of-clause-place
returns-then-is_of-clause-place c =
    hinted c.args.id c.args.hint c.args.filters.now c.index-filters-hint.result c.requires.own_ids (search rules) (search rules) (sym c.is_of.ensures ∙ c.if-is_of.true)
