use Rattle.std.proofs.Common.{◌≡◌, ◌∙◌, refl, rules, subst, Bool, true, false, ◌||◌}
use Rattle.std.specs.Io.KnownBytes.{Appends}
use Rattle.std.proofs.KnownBytes.{Appends-trans}
use Rattle.lc_model.specs.Device.{Sink}
use Rattle.lc_model.proofs.Slices.{take-range}
use Rattle.lc_model.proofs.device.write_all.Goals as goal

-- A call changes nothing that the call before it did not.
again : (failed retried : Bool) → failed || (failed || retried) ≡ failed || retried
again true retried = refl
again false retried = refl

pub loop-sent-preserved : goal.loop-sent-preserved
loop-sent-preserved g c = let before : Sink = g.W.ByteSink.sink c.loop-sent.writer in (
  search rules,
  subst (Appends _ _) (take-range c.loop-sent.sent c.in-Ok.count c.args.bytes.now)
      (Appends-trans _ _ _ _ _ c.loop-sent.invariant.1 c.in-Ok.ensures.written.gains),
  search rules,
  (λ i. c.in-Ok.ensures.written.as_before i || c.write.ensures.retried i) ∙ again before.failed before.retried ∙ c.loop-sent.invariant.3,
)
