use Rattle.std.proofs.Common.{◌≡◌, ◌∙◌, ap, sym, refl, ℕ, ◌≢◌, arith, length, List, true, rules}
use Rattle.std.specs.Prelude.{option_map, Option, Some, None, slice_set, is_some}
use Rattle.lc_model.specs.Services.Bus.{Queue, pipe_at}
use Rattle.packet_bus.specs.Slots.{PooledPacket}
use Rattle.packet_bus.specs.Line.{Line, slots_in, mids_in, hears_mid, with_subscription}
use Rattle.packet_bus.specs.Inside.{place_at, queue_over, hears_in}
use Rattle.packet_bus.proofs.Places.{in_places, is_place_at, shown_new, pipe_is, has_queue}
use Rattle.packet_bus.proofs.Heard.{hears_more, hears_others_too, heard_anew, heard_as_before}
use Rattle.packet_bus.proofs.Calls.{subscribed_is, subscribed_too, heard_in, subscriptions_in}
use Rattle.packet_bus.proofs.bus.Bus.subscribe.Goals as goal

-- the slots stay
slots_stay : (mid : ℕ) (place : Option Line) → slots_in (option_map (with_subscription mid) place) ≡ slots_in place
slots_stay mid None = refl
slots_stay mid (Some line) = refl

same_subscriptions : (pool : List PooledPacket) (place : Option Line) → subscriptions_in (option_map (queue_over pool) place) ≡ mids_in place
same_subscriptions pool None = refl
same_subscriptions pool (Some line) = refl

pub invariant_of-self : goal.invariant_of-self
invariant_of-self c =
    let bus = c.self.invariant.0 in
    let at = c.index-at.result in
    let below = c.index-at.ensures.below in
    let in_seats = in_places _ _ _ _ _ bus at below in
    let mid = c.args.mid in
    let old = place_at c.self.inside.places.items at in
    let place = is_place_at c.self.inside.places.items at c.index_mut.result.now in_seats c.index_mut.ensures.value in
    let pipe = pipe_is c.self.inside.pool c.self.inside.places.items c.args.self.now c.args.seat at c.index_mut.result.now in_seats c.index_mut.ensures.value c.index-at.ensures.value c.self.view_is in
    let has : is_some old ≡ true =
    ap is_some (sym place) ∙ sym (has_queue c.self.inside.pool c.index_mut.result.now) ∙ ap is_some pipe ∙ sym c.has_pipe.ensures.has ∙ c.if-not-has_pipe.false in
    let new : c.subscribe.new.self ≡ option_map (with_subscription mid) old = c.subscribe.ensures ∙ ap (option_map (with_subscription mid)) place in (
      heard_anew _ _ _ _ _ bus at below c.subscribe.new.self (ap slots_in new ∙ slots_stay mid old) mid c.insert.new.self _ _ (omega arith) c.index_mut-then-mid-lt-MESSAGE_IDS.ensures.value
          (c.insert.ensures ∙ ap (λ seat. slice_set c.index_mut-then-mid-lt-MESSAGE_IDS.result.now seat true) (sym c.index-at.ensures.value)) (ap (hears_mid mid) new ∙ hears_more mid old has)
          (λ other not_same. ap (hears_mid other) new ∙ hears_others_too mid other old not_same),
      search rules,
      search rules,
    )

pub invariant_of-self-else-mid-lt-MESSAGE_IDS : goal.invariant_of-self-else-mid-lt-MESSAGE_IDS
invariant_of-self-else-mid-lt-MESSAGE_IDS c =
    let bus = c.self.invariant.0 in
    let at = c.index-at.result in
    let below = c.index-at.ensures.below in
    let mid = c.args.mid in
    let old = place_at c.self.inside.places.items at in
    let place = is_place_at c.self.inside.places.items at c.index_mut.result.now (in_places _ _ _ _ _ bus at below) c.index_mut.ensures.value in
    let new : c.subscribe.new.self ≡ option_map (with_subscription mid) old = c.subscribe.ensures ∙ ap (option_map (with_subscription mid)) place in (
      heard_as_before _ _ _ _ _ bus at below c.subscribe.new.self (ap slots_in new ∙ slots_stay mid old)
          (λ other less. let not_same : other ≢ mid = omega arith in ap (hears_mid other) new ∙ hears_others_too mid other old not_same),
      search rules,
      search rules,
    )

pub returns-then-mid-lt-MESSAGE_IDS-clause-after : goal.returns-then-mid-lt-MESSAGE_IDS-clause-after
returns-then-mid-lt-MESSAGE_IDS-clause-after c =
    let at = c.index-at.result in
    let in_seats = in_places _ _ _ _ _ c.self.invariant.0 at c.index-at.ensures.below in
    let pool = c.self.inside.pool in
    let second = pipe_is pool c.self.inside.places.items c.args.self.now c.args.seat at c.index.result.now in_seats c.index.ensures c.index-at.ensures.value c.self.view_is in
    let count : length (subscriptions_in (pipe_at c.args.seat c.args.self.now)) ≡ c.subscriptions.result =
    ap (λ (queue : Option Queue). length (subscriptions_in queue)) (sym second) ∙ ap length (same_subscriptions pool c.index.result.now) ∙ sym c.subscriptions.ensures.count in
    shown_new pool c.self.inside.places.items c.args.self.now c.args.seat at c.index_mut.result.now c.subscribe.new.self (with_subscription c.args.mid) (subscribed_too c.args.mid) in_seats
    c.index_mut.ensures.value c.index-at.ensures.value c.self.view_is c.subscribe.ensures (λ line. refl)
    ∙ subscribed_is c.args.seat c.args.mid c.args.self.now (sym c.has_pipe.ensures.has ∙ c.if-not-has_pipe.false)
    (sym c.is_subscribed.ensures ∙ c.if-is_subscribed.false)
    (omega (arith, count, c.subscriptions.ensures.few, c.if-subscriptions-eq256.false))

pub returns-else-mid-lt-MESSAGE_IDS-clause-after : goal.returns-else-mid-lt-MESSAGE_IDS-clause-after
returns-else-mid-lt-MESSAGE_IDS-clause-after c =
    let at = c.index-at.result in
    let in_seats = in_places _ _ _ _ _ c.self.invariant.0 at c.index-at.ensures.below in
    let pool = c.self.inside.pool in
    let second = pipe_is pool c.self.inside.places.items c.args.self.now c.args.seat at c.index.result.now in_seats c.index.ensures c.index-at.ensures.value c.self.view_is in
    let count : length (subscriptions_in (pipe_at c.args.seat c.args.self.now)) ≡ c.subscriptions.result =
    ap (λ (queue : Option Queue). length (subscriptions_in queue)) (sym second) ∙ ap length (same_subscriptions pool c.index.result.now) ∙ sym c.subscriptions.ensures.count in
    shown_new pool c.self.inside.places.items c.args.self.now c.args.seat at c.index_mut.result.now c.subscribe.new.self (with_subscription c.args.mid) (subscribed_too c.args.mid) in_seats
    c.index_mut.ensures.value c.index-at.ensures.value c.self.view_is c.subscribe.ensures (λ line. refl)
    ∙ subscribed_is c.args.seat c.args.mid c.args.self.now (sym c.has_pipe.ensures.has ∙ c.if-not-has_pipe.false)
    (sym c.is_subscribed.ensures ∙ c.if-is_subscribed.false)
    (omega (arith, count, c.subscriptions.ensures.few, c.if-subscriptions-eq256.false))

pub subscribe-requires-clause-anew : goal.subscribe-requires-clause-anew
subscribe-requires-clause-anew c =
    let at = c.index-at.result in
    let in_seats = in_places _ _ _ _ _ c.self.invariant.0 at c.index-at.ensures.below in
    let pool = c.self.inside.pool in
    let pipe = pipe_is pool c.self.inside.places.items c.args.self.now c.args.seat at c.index_mut.result.now in_seats c.index_mut.ensures.value c.index-at.ensures.value c.self.view_is in
    sym (heard_in pool c.args.mid c.index_mut.result.now) ∙ ap (hears_in c.args.mid) pipe ∙ sym c.is_subscribed.ensures ∙ c.if-is_subscribed.false
