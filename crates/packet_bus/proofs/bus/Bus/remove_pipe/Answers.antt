use Rattle.std.proofs.Common.{◌≡◌, ◌∙◌, ◌<◌, ap, sym, refl, ℕ, arith, length, rules}
use Rattle.std.specs.Prelude.{Option, Some, None, slice_set, option_map}
use Rattle.lc_model.specs.Services.Bus.{Bus, pipe_at}
use Rattle.packet_bus.specs.Line.{Line, new_line, slots_in, hears_mid}
use Rattle.packet_bus.specs.Inside.{place_at, queue_over, changed, without_subscriptions}
use Rattle.packet_bus.proofs.Places.{in_places, is_place_at, shown_set, pipe_is}
use Rattle.packet_bus.proofs.Heard.{heard_as_before}
use Rattle.packet_bus.proofs.Emptied.{nothing_left, place_is_new, removed_is}
use Rattle.packet_bus.proofs.bus.Bus.remove_pipe.Goals as goal

-- a pipe that has nothing, and a place without a pipe, have the same
same_slots : (old new : Option Line) → old ≡ Some new_line → new ≡ None → slots_in new ≡ slots_in old
same_slots old new has lacks = rw (has, lacks) refl

same_mids : (old new : Option Line) → old ≡ Some new_line → new ≡ None → (mid : ℕ) → hears_mid mid new ≡ hears_mid mid old
same_mids old new has lacks mid = rw (has, lacks) refl

pub close-requires : goal.close-requires
close-requires c =
    let pipe =
    pipe_is c.self.inside.pool c.self.inside.places.items c.forget_all.new.self c.args.seat c.index.result c.index_mut.result.now
    (in_places _ _ _ _ _ c.self.invariant.0 c.index.result c.index.ensures.below) c.index_mut.ensures.value c.index.ensures.value c.self.view_is in
    let below : c.args.seat < length c.args.self.now = omega (arith, c.index.ensures.value, c.index.ensures.below, c.has_pipe.ensures.eight) in
    place_is_new c.self.inside.pool c.index_mut.result.now
    (pipe
    ∙ ap (pipe_at c.args.seat) (c.forget_all.ensures ∙ ap (changed c.args.seat without_subscriptions) c.discard_all.ensures)
    ∙ nothing_left c.args.seat c.args.self.now below (sym c.has_pipe.ensures.has ∙ c.if-not-has_pipe.false))

pub invariant_of-self : goal.invariant_of-self
invariant_of-self c =
    let bus = c.self.invariant.0 in
    let at = c.index.result in
    let in_seats = in_places _ _ _ _ _ bus at c.index.ensures.below in
    let pipe = pipe_is c.self.inside.pool c.self.inside.places.items c.forget_all.new.self c.args.seat at c.index_mut.result.now in_seats c.index_mut.ensures.value c.index.ensures.value c.self.view_is in
    let below : c.args.seat < length c.args.self.now = omega (arith, c.index.ensures.value, c.index.ensures.below, c.has_pipe.ensures.eight) in
    let has : place_at c.self.inside.places.items at ≡ Some new_line =
    sym (is_place_at c.self.inside.places.items at c.index_mut.result.now in_seats c.index_mut.ensures.value)
    ∙ place_is_new c.self.inside.pool c.index_mut.result.now
    (pipe
    ∙ ap (pipe_at c.args.seat) (c.forget_all.ensures ∙ ap (changed c.args.seat without_subscriptions) c.discard_all.ensures)
    ∙ nothing_left c.args.seat c.args.self.now below (sym c.has_pipe.ensures.has ∙ c.if-not-has_pipe.false)) in
    (heard_as_before _ _ _ _ _ bus at c.index.ensures.below c.close.new.self (same_slots _ _ has c.close.ensures) (λ mid less. same_mids _ _ has c.close.ensures mid), search rules, search rules)

pub returns-clause-after : goal.returns-clause-after
returns-clause-after c =
    shown_set c.self.inside.pool c.self.inside.places.items c.forget_all.new.self c.args.seat c.index.result c.close.new.self c.index.ensures.value c.self.view_is
    ∙ ap (λ (place : Option Line). slice_set c.forget_all.new.self c.args.seat (option_map (queue_over c.self.inside.pool) place)) c.close.ensures
    ∙ ap (λ (bus : Bus). slice_set bus c.args.seat None) (c.forget_all.ensures ∙ ap (changed c.args.seat without_subscriptions) c.discard_all.ensures)
    ∙ removed_is c.args.seat c.args.self.now (sym c.has_pipe.ensures.has ∙ c.if-not-has_pipe.false)
