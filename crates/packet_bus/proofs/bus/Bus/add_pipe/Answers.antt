use Rattle.std.proofs.Common.{◌≡◌, ◌∙◌, ap, sym, refl, ℕ, rules}
use Rattle.std.specs.Prelude.{Option, Some, None, is_some, option_map, slice_set}
use Rattle.packet_bus.specs.Line.{Line, new_line, slots_in, hears_mid}
use Rattle.packet_bus.specs.Inside.{place_at, queue_over}
use Rattle.packet_bus.proofs.Places.{in_places, is_place_at, shown_set, pipe_is, has_queue, no_place}
use Rattle.packet_bus.proofs.Heard.{heard_as_before}
use Rattle.packet_bus.proofs.Calls.{added_is}
use Rattle.packet_bus.proofs.bus.Bus.add_pipe.Goals as goal

-- a place without a pipe, and one with a new pipe, have nothing
same_slots : (old new : Option Line) → old ≡ None → new ≡ Some new_line → slots_in new ≡ slots_in old
same_slots old new lacks has = rw (lacks, has) refl

same_mids : (old new : Option Line) → old ≡ None → new ≡ Some new_line → (mid : ℕ) → hears_mid mid new ≡ hears_mid mid old
same_mids old new lacks has mid = rw (lacks, has) refl

pub invariant_of-self : goal.invariant_of-self
invariant_of-self c =
    let bus = c.self.invariant.0 in
    let at = c.index.result in
    let in_seats = in_places _ _ _ _ _ bus at c.index.ensures.below in
    let place = is_place_at c.self.inside.places.items at c.index_mut.result.now in_seats c.index_mut.ensures.value in
    let pipe = pipe_is c.self.inside.pool c.self.inside.places.items c.args.self.now c.args.seat at c.index_mut.result.now in_seats c.index_mut.ensures.value c.index.ensures.value c.self.view_is in
    let lacks : place_at c.self.inside.places.items at ≡ None =
    sym place ∙ no_place c.index_mut.result.now (sym (has_queue c.self.inside.pool c.index_mut.result.now) ∙ ap is_some pipe ∙ sym c.has_pipe.ensures.has ∙ c.if-has_pipe.false) in
    (heard_as_before _ _ _ _ _ bus at c.index.ensures.below c.open.new.self (same_slots _ _ lacks c.open.ensures) (λ mid less. same_mids _ _ lacks c.open.ensures mid), search rules, search rules)

pub returns-clause-after : goal.returns-clause-after
returns-clause-after c =
    shown_set c.self.inside.pool c.self.inside.places.items c.args.self.now c.args.seat c.index.result c.open.new.self c.index.ensures.value c.self.view_is
    ∙ ap (λ (place : Option Line). slice_set c.args.self.now c.args.seat (option_map (queue_over c.self.inside.pool) place)) c.open.ensures
    ∙ added_is c.args.seat c.args.self.now (sym c.has_pipe.ensures.has ∙ c.if-has_pipe.false)
