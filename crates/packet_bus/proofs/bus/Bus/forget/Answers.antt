use Rattle.std.proofs.Common.{◌≡◌, ◌∙◌, ap, sym, refl, ℕ, ◌≢◌, arith, List, false, rules}
use Rattle.std.specs.Prelude.{option_map, Option, Some, None, slice_set}
use Rattle.lc_model.specs.Services.Bus.{parted}
use Rattle.packet_bus.specs.Line.{Line, slots_in, hears_mid, without_subscription}
use Rattle.packet_bus.specs.Inside.{place_at}
use Rattle.packet_bus.proofs.Places.{in_places, is_place_at, shown_new}
use Rattle.packet_bus.proofs.Heard.{hears_less, hears_others_still, heard_anew, heard_as_before}
use Rattle.packet_bus.proofs.bus.Bus.forget.Goals as goal

-- the slots stay
slots_stay : (mid : ℕ) (place : Option Line) → slots_in (option_map (without_subscription mid) place) ≡ slots_in place
slots_stay mid None = refl
slots_stay mid (Some line) = refl

-- the place then
place_then : (mid : ℕ) (places : List (Option Line)) (seat : ℕ) (old new : Option Line) → new ≡ option_map (without_subscription mid) old → old ≡ place_at places seat →
    new ≡ option_map (without_subscription mid) (place_at places seat)
place_then mid places seat old new e same = e ∙ ap (option_map (without_subscription mid)) same

pub invariant_of-self : goal.invariant_of-self
invariant_of-self c =
    let bus = c.self.invariant.0 in
    let at = c.index.result in
    let below = c.index.ensures.below in
    let old = place_at c.self.inside.places.items at in
    let new : c.unsubscribe.new.self ≡ option_map (without_subscription c.args.mid) old =
    place_then c.args.mid c.self.inside.places.items at _ _ c.unsubscribe.ensures
    (is_place_at c.self.inside.places.items at c.index_mut.result.now (in_places _ _ _ _ _ bus at below) c.index_mut.ensures.value) in (
      heard_anew _ _ _ _ _ bus at below c.unsubscribe.new.self (ap slots_in new ∙ slots_stay c.args.mid old) c.args.mid c.remove.new.self _ _ (omega arith) c.index_mut-then-mid-lt-MESSAGE_IDS.ensures.value
          (c.remove.ensures ∙ ap (λ seat. slice_set c.index_mut-then-mid-lt-MESSAGE_IDS.result.now seat false) (sym c.index.ensures.value)) (ap (hears_mid c.args.mid) new ∙ hears_less c.args.mid old) (λ mid other. ap (hears_mid mid) new ∙ hears_others_still c.args.mid mid old other),
      search rules,
      search rules,
    )

pub invariant_of-self-else-mid-lt-MESSAGE_IDS : goal.invariant_of-self-else-mid-lt-MESSAGE_IDS
invariant_of-self-else-mid-lt-MESSAGE_IDS c =
    let bus = c.self.invariant.0 in
    let at = c.index.result in
    let below = c.index.ensures.below in
    let old = place_at c.self.inside.places.items at in
    let new : c.unsubscribe.new.self ≡ option_map (without_subscription c.args.mid) old =
    place_then c.args.mid c.self.inside.places.items at _ _ c.unsubscribe.ensures
    (is_place_at c.self.inside.places.items at c.index_mut.result.now (in_places _ _ _ _ _ bus at below) c.index_mut.ensures.value) in (
      heard_as_before _ _ _ _ _ bus at below c.unsubscribe.new.self (ap slots_in new ∙ slots_stay c.args.mid old)
          (λ mid less. let other : mid ≢ c.args.mid = omega arith in ap (hears_mid mid) new ∙ hears_others_still c.args.mid mid old other),
      search rules,
      search rules,
    )

pub returns-then-mid-lt-MESSAGE_IDS-clause-after : goal.returns-then-mid-lt-MESSAGE_IDS-clause-after
returns-then-mid-lt-MESSAGE_IDS-clause-after c =
    shown_new c.self.inside.pool c.self.inside.places.items c.args.self.now c.args.seat c.index.result c.index_mut.result.now c.unsubscribe.new.self
    (without_subscription c.args.mid) (parted c.args.mid) (in_places _ _ _ _ _ c.self.invariant.0 c.index.result c.index.ensures.below)
    c.index_mut.ensures.value c.index.ensures.value c.self.view_is c.unsubscribe.ensures (λ line. refl)

pub returns-else-mid-lt-MESSAGE_IDS-clause-after : goal.returns-else-mid-lt-MESSAGE_IDS-clause-after
returns-else-mid-lt-MESSAGE_IDS-clause-after c =
    shown_new c.self.inside.pool c.self.inside.places.items c.args.self.now c.args.seat c.index.result c.index_mut.result.now c.unsubscribe.new.self
    (without_subscription c.args.mid) (parted c.args.mid) (in_places _ _ _ _ _ c.self.invariant.0 c.index.result c.index.ensures.below)
    c.index_mut.ensures.value c.index.ensures.value c.self.view_is c.unsubscribe.ensures (λ line. refl)
