-- Changes made from the first to the last, all of the same text.
use Rattle.std.proofs.Common.{◌≡◌, ◌+◌, ◌-◌, ◌≤◌, ◌++◌, ◌&&◌, ℕ, Bool, true, false, nat_le, List, [], ◌∷◌, length, take, drop, refl, sym, ◌∙◌, ap, arith, append_assoc}
use Rattle.std.proofs.lemmas.List.{drop_all, take-append-drop, take_rest}
use Rattle.std.proofs.lemmas.Bool.{leb-true}
use Rattle.std.proofs.lemmas.Grind.{common_steps}
use Rattle.std.proofs.Math.Seq.{take-add}
use Rattle.editor_text.specs.Changes.{Change, applied, are_apart, changes_of, replaced}
use Rattle.editor_text.specs.declared.change.Replacement.{Replacement}

-- what is left of the text, with its changes
abbrev pub merged : List ℕ → ℕ → List Change → List ℕ
merged old at [] = drop at old
merged old at (change ∷ rest) = take (change.from - at) (drop at old) ++ (change.bytes ++ merged old change.to rest)

front : (old : List ℕ) (at from : ℕ) → at ≤ from → take at old ++ take (from - at) (drop at old) ≡ take from old
front old at from order =
    let e : at + (from - at) ≡ from = omega arith in sym (take-add at (from - at) old) ∙ ap (λ n. take n old) e

kept : (old left : List ℕ) (from to : ℕ) → from ≤ to → to ≤ length old → take from (take to old ++ left) ≡ take from old
kept old left from to order within = grind (arith, common_steps)

behind : (old left : List ℕ) (to : ℕ) → to ≤ length old → drop to (take to old ++ left) ≡ left
behind old left to within = grind (arith, common_steps)

step : (old left bytes : List ℕ) (at from to : ℕ) → at ≤ from → from ≤ to → to ≤ length old
    → take at old ++ (take (from - at) (drop at old) ++ (bytes ++ left)) ≡ replaced (take to old ++ left) from to bytes
step old left bytes at from to a b c =
    sym (append_assoc (take at old) (take (from - at) (drop at old)) (bytes ++ left))
    ∙ ap (λ text. text ++ (bytes ++ left)) (front old at from a ∙ sym (kept old left from to b c))
    ∙ ap (λ text. take from (take to old ++ left) ++ (bytes ++ text)) (sym (behind old left to c))

tested : (a b c d : Bool) → (a && (b && c)) && d ≡ true → (a ≡ true) × (b ≡ true) × (c ≡ true) × (d ≡ true)
tested true true true true e = (refl, refl, refl, refl)
tested true true true false e = absurd (cc)
tested true true false d e = absurd (cc)
tested true false c d e = absurd (cc)
tested false b c d e = absurd (cc)

pub all_merged : (old : List ℕ) (at : ℕ) (changes : List Change) → are_apart at (length old) changes ≡ true
    → take at old ++ merged old at changes ≡ applied changes old
all_merged old at [] apart = take-append-drop at old
all_merged old at (change ∷ rest) apart =
    let t = tested (nat_le at change.from) (nat_le change.from change.to) (nat_le change.to (length old))
    (are_apart change.to (length old) rest) apart in
    step old (merged old change.to rest) change.bytes at change.from change.to (leb-true at change.from t.0)
    (leb-true change.from change.to t.1) (leb-true change.to (length old) t.2)
    ∙ ap (λ text. replaced text change.from change.to change.bytes) (all_merged old change.to rest t.3)

-- all changes are made
pub all_made : (old done now : List ℕ) (at n : ℕ) (changes : List Replacement) → length changes ≤ n
    → now ≡ done ++ take (length old - at) (drop at old)
    → done ++ merged old at (changes_of (drop n changes)) ≡ merged old 0 (changes_of changes)
    → are_apart at (length old) (changes_of (drop n changes)) ≡ are_apart 0 (length old) (changes_of changes)
    → now ≡ applied (changes_of changes) old
all_made old done now at n changes all is same apart =
    let none : drop n changes ≡ [] = drop_all n changes all in
    is ∙ ap (λ rest. done ++ rest) (take_rest old at)
    ∙ ap (λ rest. done ++ merged old at (changes_of rest)) (sym none) ∙ same
    ∙ all_merged old 0 (changes_of changes) (sym apart ∙ ap (λ rest. are_apart at (length old) (changes_of rest)) none)
