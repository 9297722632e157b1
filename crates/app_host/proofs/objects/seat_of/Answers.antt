use Rattle.std.proofs.Common.{sym, ◌∙◌}
use Rattle.app_host.proofs.Found.{hit, miss}
use Rattle.app_host.proofs.objects.seat_of.Goals as goal

pub returns-then-is_seated : goal.returns-then-is_seated
returns-then-is_seated g c =
    hit _ _ c.args.seats.now c.loop-k.k c.index-seats-k.result _ c.loop-k-test.true c.index-seats-k.is (sym c.is_seated.ensures ∙ c.if-is_seated.true) c.loop-k.invariant

pub loop-k-preserved : goal.loop-k-preserved
loop-k-preserved g c =
    miss _ _ c.args.seats.now c.loop-k.k c.index-seats-k.result _ c.loop-k-test.true c.index-seats-k.is (sym c.is_seated.ensures ∙ c.if-is_seated.false) c.loop-k.invariant
