-- The order of places as that of numbers.
use Rattle.std.proofs.Common.{◌≡◌, ◌+◌, ◌*◌, ◌-◌, ◌<◌, ◌≤◌, ◌&&◌, ℕ, zero, suc, Bool, true, false, cond, if◌then◌else◌, nat_lt, List, length, slice_index, refl, sym, ap, ◌∙◌, subst, arith}
use Rattle.std.proofs.lemmas.Bool.{ltb-false, ltb-true}
use Rattle.std.proofs.lemmas.Bool.Decides.{nat_tests}
use Rattle.editor_text.specs.declared.position.UnitPlace.{UnitPlace}
use Rattle.editor_text.specs.Place.{before_pair, ends_line, is_after, is_continuation, is_pair, place_of, plus, reach, units_of}
use Rattle.editor_text.proofs.Places.{at_end, at_start, goes_on, one_more, stops}

-- later places have greater numbers
abbrev pub code : UnitPlace → ℕ
code place = place.line * 8589934592 + place.unit

-- the place of a byte that has so many before it
abbrev IsBelow : ℕ → UnitPlace → Type 0
IsBelow k place = (place.line ≤ k) × (place.unit ≤ 2 * k)

after : (a b : UnitPlace) → a.unit < 8589934592 → b.unit < 8589934592 → code b < code a → is_after a b ≡ true
after a b u v less = grind (arith, nat_tests)

not_after : (a b : UnitPlace) → a.unit < 8589934592 → b.unit < 8589934592 → code a ≤ code b → is_after a b ≡ false
not_after a b u v less = grind (arith, nat_tests)

units : (byte : ℕ) → units_of byte ≤ 2
units byte = grind (arith, nat_tests)

some_units : (byte : ℕ) → is_continuation byte ≡ false → 0 < units_of byte
some_units byte first = grind (arith, nat_tests)

-- a place one byte on, by whether a line ends and by the units
on : Bool → UnitPlace → ℕ → UnitPlace
on ends place u =
    if ends then record { line = plus place.line 1; unit = 0 } else record { line = place.line; unit = plus place.unit u }

on_below : (ends : Bool) (k : ℕ) (place : UnitPlace) (u : ℕ) → u ≤ 2 → IsBelow k place → IsBelow (suc k) (on ends place u)
unfolding on
on_below true k place u few below = (omega arith, omega arith)
on_below false k place u few below = (omega arith, omega arith)

on_weakly : (ends : Bool) (k : ℕ) (place : UnitPlace) (u : ℕ) → k < 2147483647 → u ≤ 2 → IsBelow k place → code place ≤ code (on ends place u)
unfolding on
on_weakly true k place u short few below = omega arith
on_weakly false k place u short few below = omega arith

on_strictly : (ends : Bool) (k : ℕ) (place : UnitPlace) (u : ℕ) → k < 2147483647 → 0 < u → u ≤ 2 → IsBelow k place
    → code place < code (on ends place u)
unfolding on
on_strictly true k place u short some few below = omega arith
on_strictly false k place u short some few below = omega arith

next_is : (text : List ℕ) (k : ℕ) → place_of text (suc k) ≡ on (ends_line text k) (place_of text k) (units_of (slice_index text k))
unfolding on
next_is text k = one_more text k (suc k) (omega arith)

pub below : (text : List ℕ) (k : ℕ) → IsBelow k (place_of text k)
below text zero = subst (λ (place : UnitPlace). IsBelow 0 place) (sym (at_start text)) (omega arith, omega arith)
below text (suc k) =
    subst (λ (place : UnitPlace). IsBelow (suc k) place) (sym (next_is text k))
    (on_below (ends_line text k) k (place_of text k) (units_of (slice_index text k)) (units (slice_index text k)) (below text k))

weakly : (text : List ℕ) (k : ℕ) → k < 2147483647 → code (place_of text k) ≤ code (place_of text (suc k))
weakly text k short =
    subst (λ (place : UnitPlace). code (place_of text k) ≤ code place) (sym (next_is text k))
    (on_weakly (ends_line text k) k (place_of text k) (units_of (slice_index text k)) short (units (slice_index text k)) (below text k))

strictly : (text : List ℕ) (k : ℕ) → k < 2147483647 → is_continuation (slice_index text k) ≡ false
    → code (place_of text k) < code (place_of text (suc k))
strictly text k short first =
    subst (λ (place : UnitPlace). code (place_of text k) < code place) (sym (next_is text k))
    (on_strictly (ends_line text k) k (place_of text k) (units_of (slice_index text k)) short (some_units (slice_index text k) first)
    (units (slice_index text k)) (below text k))

monotone : (text : List ℕ) (k d at : ℕ) → at ≡ k + d → at < 2147483648 → code (place_of text k) ≤ code (place_of text at)
monotone text k zero at is short = let e : at ≡ k = omega (arith, is) in rw e (omega arith)
monotone text k (suc d) at is short =
    let e : at ≡ suc (k + d) = omega (arith, is) in
    let before = monotone text k d (k + d) refl (omega (arith, is, short)) in
    let last = weakly text (k + d) (omega (arith, is, short)) in
    rw e (omega (arith, before, last))

-- places up to this one aren't after it; the next one is, where a character begins
not_beyond : (text : List ℕ) (k at : ℕ) → k ≤ at → at < 2147483648 → is_after (place_of text k) (place_of text at) ≡ false
not_beyond text k at order short =
    let u = below text k in
    let v = below text at in
    not_after (place_of text k) (place_of text at) (omega (arith, u.1, order, short)) (omega (arith, v.1, short))
    (monotone text k (at - k) at (omega (arith, order)) short)

beyond : (text : List ℕ) (at : ℕ) → at < 2147483647 → is_continuation (slice_index text at) ≡ false
    → is_after (place_of text (suc at)) (place_of text at) ≡ true
beyond text at short first =
    let u = below text (suc at) in
    let v = below text at in
    after (place_of text (suc at)) (place_of text at) (omega (arith, u.1, short)) (omega (arith, v.1, short)) (strictly text at short first)

-- the walk goes on or stops
goes_or_stops : (less : Bool) (text : List ℕ) (at from left : ℕ) → nat_lt from at ≡ less → from + suc left < 2147483648 → from ≤ at
    → at ≤ from + suc left → is_continuation (slice_index text at) ≡ false
    → (from < at → reach text (place_of text at) (suc from) left ≡ at) → reach text (place_of text at) from (suc left) ≡ at
goes_or_stops true text at from left test short low high first rest =
    let less : from < at = ltb-true from at test in
    goes_on text (place_of text at) from (suc from) (suc left) (omega arith) (omega arith)
    (not_beyond text (suc from) at (omega arith) (omega arith))
    ∙ ap (λ n. reach text (place_of text at) (suc from) n) (omega arith) ∙ rest less
goes_or_stops false text at from left test short low high first rest =
    let more : at ≤ from = ltb-false from at test in
    let same : from ≡ at = omega arith in
    rw same (stops text (place_of text at) at (suc at) (suc left) (omega arith) (omega arith) (beyond text at (omega arith) first))

stops_there : (text : List ℕ) (at from left : ℕ) → from + left < 2147483648 → from ≤ at → at ≤ from + left
    → is_continuation (slice_index text at) ≡ false → reach text (place_of text at) from left ≡ at
stops_there text at from zero short low high first = at_end text (place_of text at) from 0 refl ∙ (omega (arith, low, high))
stops_there text at from (suc left) short low high first =
    goes_or_stops (nat_lt from at) text at from left refl short low high first
    (λ less. stops_there text at (suc from) left (omega (arith, short)) (omega (arith, less)) (omega (arith, high)) first)

pub agree : (text : List ℕ) (at : ℕ) → length text < 2147483648 → at ≤ length text → is_continuation (slice_index text at) ≡ false
    → (nat_lt 0 at && is_pair text (at - 1)) ≡ false → before_pair text (reach text (place_of text at) 0 (length text)) ≡ at
agree text at short within first apart =
    ap (λ n. before_pair text n) (stops_there text at 0 (length text) (omega (arith, short)) (omega arith) (omega (arith, within)) first)
    ∙ by_pair (nat_lt 0 at && is_pair text (at - 1)) apart
  where
    by_pair : (pair : Bool) → pair ≡ false → cond pair (at - 1) at ≡ at
    by_pair pair e = rw e refl
