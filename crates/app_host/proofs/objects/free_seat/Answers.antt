use Rattle.std.proofs.Common.{sym, ◌∙◌}
use Rattle.app_host.proofs.Found.{hit, miss}
use Rattle.app_host.proofs.objects.free_seat.Goals as goal

pub returns-then-is_free : goal.returns-then-is_free
returns-then-is_free g c =
    hit _ _ c.args.seats.now c.loop-k.k c.index-seats-k.result _ c.loop-k-test.true c.index-seats-k.is (sym c.is_free.ensures ∙ c.if-is_free.true) c.loop-k.invariant

pub loop-k-preserved : goal.loop-k-preserved
loop-k-preserved g c =
    miss _ _ c.args.seats.now c.loop-k.k c.index-seats-k.result _ c.loop-k-test.true c.index-seats-k.is (sym c.is_free.ensures ∙ c.if-is_free.false) c.loop-k.invariant
