use Rattle.std.proofs.Common.{sym, ◌∙◌, subst}
use Rattle.app_host.specs.Calls.{IsObject}
use Rattle.app_host.specs.Hosted.{Object, no_object}
use Rattle.app_host.proofs.Found.{hit, miss, shown_at}
use Rattle.app_host.proofs.objects.spare_of.Goals as goal

pub returns-then-is_called-clause-first : goal.returns-then-is_called-clause-first
returns-then-is_called-clause-first g c =
    hit _ _ c.args.stock.now c.loop-i.i c.index-stock-i.result _ c.loop-i-test.true c.index-stock-i.is (sym c.is_called.ensures.called ∙ c.if-is_called.true) c.loop-i.invariant

pub loop-i-preserved : goal.loop-i-preserved
loop-i-preserved g c =
    miss _ _ c.args.stock.now c.loop-i.i c.index-stock-i.result _ c.loop-i-test.true c.index-stock-i.is (sym c.is_called.ensures.called ∙ c.if-is_called.false) c.loop-i.invariant

pub returns-then-is_called-clause-kind : goal.returns-then-is_called-clause-kind
returns-then-is_called-clause-kind g c =
    subst (λ (o : Object). IsObject o.state o.called) (sym (shown_at _ c.args.stock.now c.loop-i.i c.index-stock-i.result no_object c.loop-i-test.true c.index-stock-i.is)) c.is_called.ensures.kind
