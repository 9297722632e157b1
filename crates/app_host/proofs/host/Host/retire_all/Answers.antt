use Rattle.std.proofs.Common.{rules, ◌+◌, refl, sym, ap, ◌∙◌, subst}
use Rattle.std.specs.Prelude.{slice_set, map}
use Rattle.std.proofs.lemmas.List.{map-set}
use Rattle.app_host.specs.Hosted.{shown, object_in}
use Rattle.app_host.proofs.Closed.{EmptyBelow, none_empty, one_vacated, all_empty}
use Rattle.app_host.proofs.host.Host.retire_all.Goals as goal

pub loop-index-init : goal.loop-index-init
loop-index-init g c = none_empty _ _ c.requires.whole refl

pub loop-index-preserved : goal.loop-index-preserved
loop-index-preserved g c =
    subst (EmptyBelow (c.loop-index.index + 1) (shown g.B.App.meaning c.args.self.now) (shown g.B.App.meaning c.let_go.new.self))
    (sym
    (map-set (object_in g.B.App.meaning) c.loop-index.retired c.index.result c.vacate.result
    ∙ ap (λ n. slice_set (map (object_in g.B.App.meaning) c.loop-index.retired) n (object_in g.B.App.meaning c.vacate.result)) (c.index.ensures.value ∙ c.new-seat.ensures)))
    (one_vacated c.loop-index.index c.new-seat.result _ _ _ _ _ _ c.loop-index.invariant (search rules) c.new-seat.ensures c.vacate.ensures.vacated c.vacate.ensures.goes
    c.let_go.ensures.stock c.let_go.ensures.is_closed c.let_go.ensures.calls c.let_go.ensures.seats c.let_go.ensures.services c.let_go.ensures.seated)

pub returns-clause-closed : goal.returns-clause-closed
returns-clause-closed g c = all_empty c.loop-index.index _ _ _ c.loop-index.invariant (search rules) (search rules)
