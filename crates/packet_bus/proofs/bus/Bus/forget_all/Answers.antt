use Rattle.std.proofs.Common.{◌∙◌, ◌<◌, ap, sym, arith, length, List, ℕ}
use Rattle.std.specs.Prelude.{slice_get, Option}
use Rattle.lc_model.specs.Services.Bus.{Queue, parted}
use Rattle.packet_bus.specs.Inside.{changed, without_subscriptions}
use Rattle.packet_bus.proofs.Places.{in_places, pipe_is}
use Rattle.packet_bus.proofs.Emptied.{mids_of, same_mids, no_mids, fewer_mids, changed_twice}
use Rattle.packet_bus.proofs.bus.Bus.forget_all.Goals as goal

pub loop-mid-smaller : goal.loop-mid-smaller
loop-mid-smaller c =
    let pipe =
    pipe_is c.self.inside.pool c.self.inside.places.items c.loop-mid.self c.args.seat c.index.result c.index-in-loop-mid.result.now
    (in_places _ _ _ _ _ c.self.invariant.0 c.index.result c.index.ensures.below) c.index-in-loop-mid.ensures c.index.ensures.value c.self.view_is in
    let below : c.args.seat < length c.loop-mid.self = omega (arith, c.index.ensures.value, c.index.ensures.below, c.forget.ensures.eight) in
    rw c.forget.ensures.after
    (fewer_mids c.args.seat c.in-Some.mid c.loop-mid.self below
    (ap (λ (queue : Option Queue). slice_get (mids_of queue) 0) (sym pipe)
    ∙ ap (λ (mids : List ℕ). slice_get mids 0) (same_mids c.self.inside.pool c.index-in-loop-mid.result.now)
    ∙ sym c.first_subscription.ensures
    ∙ c.in-Some.is))

pub loop-mid-preserved : goal.loop-mid-preserved
loop-mid-preserved c =
    ap (changed c.args.seat without_subscriptions) c.forget.ensures.after
    ∙ changed_twice c.args.seat (parted c.in-Some.mid) without_subscriptions c.loop-mid.self
    ∙ c.loop-mid.invariant

pub returns : goal.returns
returns c =
    let pipe =
    pipe_is c.self.inside.pool c.self.inside.places.items c.loop-mid.self c.args.seat c.index.result c.index-in-loop-mid.result.now
    (in_places _ _ _ _ _ c.self.invariant.0 c.index.result c.index.ensures.below) c.index-in-loop-mid.ensures c.index.ensures.value c.self.view_is in
    no_mids c.args.seat c.loop-mid.self
    (ap (λ (queue : Option Queue). slice_get (mids_of queue) 0) (sym pipe)
    ∙ ap (λ (mids : List ℕ). slice_get mids 0) (same_mids c.self.inside.pool c.index-in-loop-mid.result.now)
    ∙ sym c.first_subscription.ensures
    ∙ c.in_default.is)
    ∙ c.loop-mid.invariant
