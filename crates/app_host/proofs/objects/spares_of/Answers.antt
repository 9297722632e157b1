use Rattle.std.proofs.Common.{sym, ◌∙◌}
use Rattle.app_host.proofs.Found.{counted_one, counted_none}
use Rattle.app_host.proofs.objects.spares_of.Goals as goal
use Rattle.app_host.proofs.objects.spares_of.Goals.{then-is_called, else-is_called}

pub loop-app-preserved : goal.loop-app-preserved
loop-app-preserved g c = elim c.if-is_called.branch [
  then-is_called w ↦
      counted_one _ _ c.args.stock.now c.loop-app.app-index c.app-item.result c.loop-app.count c.if-is_called.count c.loop-app-test.true c.app-item.is
      (sym c.is_called.ensures.called ∙ w.if-is_called.true) c.loop-app.invariant w.count-is
  | else-is_called w ↦
      counted_none _ _ c.args.stock.now c.loop-app.app-index c.app-item.result c.loop-app.count c.if-is_called.count c.loop-app-test.true c.app-item.is
      (sym c.is_called.ensures.called ∙ w.if-is_called.false) c.loop-app.invariant w.count-is
  ]
