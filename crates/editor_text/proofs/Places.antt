-- Places one after the other.
use Rattle.std.proofs.Common.{◌≡◌, ◌+◌, ◌-◌, ◌<◌, ℕ, zero, suc, true, false, List, refl, arith}
use Rattle.editor_text.specs.declared.position.UnitPlace.{UnitPlace}
use Rattle.editor_text.specs.Place.{is_after, next_place, place_of, reach}

pub at_start : (text : List ℕ) → place_of text 0 ≡ record { line = 0; unit = 0 }
unfolding place_of
at_start text = refl

pub one_more : (text : List ℕ) (at next : ℕ) → next ≡ at + 1 → place_of text next ≡ next_place text at (place_of text at)
unfolding place_of
one_more text at zero is = absurd (omega (arith, is))
one_more text at (suc next) is = let e : next ≡ at = omega (arith, is) in rw e refl

-- the walk ends, goes on, or has come to the text's end
pub stops : (text : List ℕ) (place : UnitPlace) (at next left : ℕ) → next ≡ at + 1 → 0 < left → is_after (place_of text next) place ≡ true
    → reach text place at left ≡ at
unfolding reach
stops text place at next zero is some after = absurd (omega (arith, some))
stops text place at next (suc left) is some after =
    let e : next ≡ suc at = omega (arith, is) in rw (rw e at after) refl

pub goes_on : (text : List ℕ) (place : UnitPlace) (at next left : ℕ) → next ≡ at + 1 → 0 < left
    → is_after (place_of text next) place ≡ false → reach text place at left ≡ reach text place next (left - 1)
unfolding reach
goes_on text place at next zero is some after = absurd (omega (arith, some))
goes_on text place at next (suc left) is some after =
    let e : next ≡ suc at = omega (arith, is) in
    let l : left ≡ suc left - 1 = omega arith in
    rw (rw e at after, e, ← l) refl

pub at_end : (text : List ℕ) (place : UnitPlace) (at left : ℕ) → left ≡ 0 → reach text place at left ≡ at
unfolding reach
at_end text place at left is = rw is refl
