use Rattle.std.proofs.Common.{◌≡◌, ◌+◌, ◌-◌, ◌<◌, length, true, false, refl, sym, ap, ◌∙◌, arith}
use Rattle.editor_text.specs.Place.{is_after, next_place, place_of, reach}
use Rattle.editor_text.proofs.Places.{at_end, at_start, goes_on, one_more, stops}
use Rattle.editor_text.proofs.position.reach.Goals as goal

pub loop-at-init : goal.loop-at-init
loop-at-init c = record {
  within = omega arith;
  place = sym (at_start c.args.text.now);
  same = ap (λ n. reach c.args.text.now c.args.place 0 n) (omega arith);
}

pub returns-then-is_after-clause-reach : goal.returns-then-is_after-clause-reach
returns-then-is_after-clause-reach c =
    let text = c.args.text.now in
    let at = c.loop-at.at in
    let some : 0 < length text - at = omega arith in
    let next : c.next_place-here.result ≡ place_of text (at + 1) =
    c.next_place-here.ensures ∙ ap (λ here. next_place text at here) c.loop-at.invariant.place ∙ sym (one_more text at (at + 1) refl) in
    let after : is_after (place_of text (at + 1)) c.args.place ≡ true =
    sym (ap (λ here. is_after here c.args.place) next) ∙ sym c.is_after.ensures ∙ c.if-is_after.true in
    sym (stops text c.args.place at (at + 1) (length text - at) refl some after) ∙ c.loop-at.invariant.same

pub loop-at-preserved : goal.loop-at-preserved
loop-at-preserved c =
    let text = c.args.text.now in
    let at = c.loop-at.at in
    let some : 0 < length text - at = omega arith in
    let next : c.next_place-here.result ≡ place_of text (at + 1) =
    c.next_place-here.ensures ∙ ap (λ here. next_place text at here) c.loop-at.invariant.place ∙ sym (one_more text at (at + 1) refl) in
    let after : is_after (place_of text (at + 1)) c.args.place ≡ false =
    sym (ap (λ here. is_after here c.args.place) next) ∙ sym c.is_after.ensures ∙ c.if-is_after.false in
    let left : length text - at - 1 ≡ length text - (at + 1) = omega arith in
    record {
      within = omega arith;
      place = next;
      same = sym (ap (λ n. reach text c.args.place (at + 1) n) left)
          ∙ sym (goes_on text c.args.place at (at + 1) (length text - at) refl some after) ∙ c.loop-at.invariant.same;
    }

pub returns-clause-reach : goal.returns-clause-reach
returns-clause-reach c =
    let none : length c.args.text.now - c.loop-at.at ≡ 0 = omega arith in
    sym (at_end c.args.text.now c.args.place c.loop-at.at (length c.args.text.now - c.loop-at.at) none) ∙ c.loop-at.invariant.same
