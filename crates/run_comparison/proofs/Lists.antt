-- Lists of meanings, one by one.
use Rattle.std.proofs.Common.{◌≡◌, refl, sym, ◌∙◌, ap, ℕ, suc, ◌+◌, ◌<◌, ◌≤◌, ◌&&◌, Bool, true, false, List, [], ◌∷◌, length, drop, get_or}
use Rattle.std.proofs.Math.Bool.{and-false}
use Rattle.std.proofs.lemmas.List.{drop_all, drop_more, length-map}
use Rattle.run_comparison.specs.Meaning.{Meaning, all_held, of_held}
use Rattle.run_comparison.specs.Order.{are_same, is_same}
use Rattle.run_comparison.specs.declared.meaning.Meaning.{Meaning as HeldMeaning}

-- what is left of two lists, one meaning further
abbrev left_same : ℕ → List HeldMeaning → List HeldMeaning → Bool
left_same at these those = are_same (all_held (drop at these)) (all_held (drop at those))

left_more : (these those : List HeldMeaning) (at : ℕ) (one other : HeldMeaning) → at < length these → at < length those →
    left_same at these those ≡ (is_same (of_held (get_or these at one)) (of_held (get_or those at other)) && left_same (at + 1) these those)
left_more these those at one other within inside = λ i. are_same (all_held (drop_more these at one within i)) (all_held (drop_more those at other inside i))

-- they mean the same
pub same_on : (these those : List HeldMeaning) (at : ℕ) (one other : HeldMeaning) (total : Bool) → left_same at these those ≡ total → at < length these → at < length those →
    is_same (of_held (get_or these at one)) (of_held (get_or those at other)) ≡ true → left_same (at + 1) these those ≡ total
same_on these those at one other total so within inside is =
    sym (ap (λ b. b && left_same (at + 1) these those) is) ∙ sym (left_more these those at one other within inside) ∙ so

-- they don't
pub same_no_more : (these those : List HeldMeaning) (at : ℕ) (one other : HeldMeaning) (total : Bool) → left_same at these those ≡ total → at < length these → at < length those →
    is_same (of_held (get_or these at one)) (of_held (get_or those at other)) ≡ false → false ≡ total
same_no_more these those at one other total so within inside isnt =
    sym (ap (λ b. b && left_same (at + 1) these those) isnt) ∙ sym (left_more these those at one other within inside) ∙ so

-- all of them do
pub same_all : (these those : List HeldMeaning) (at : ℕ) (total : Bool) → left_same at these those ≡ total → length these ≤ at → length those ≤ at → true ≡ total
same_all these those at total so over over' = sym (λ i. are_same (all_held (drop_all at these over i)) (all_held (drop_all at those over' i))) ∙ so

-- lists of other lengths don't
other_lengths : (these those : List Meaning) → (length these ≡ length those → ⊥) → are_same these those ≡ false
other_lengths [] [] other = absurd (other refl)
other_lengths [] (y ∷ those) other = refl
other_lengths (x ∷ these) [] other = refl
other_lengths (x ∷ these) (y ∷ those) other = ap (λ b. is_same x y && b) (other_lengths these those (λ same. other (ap suc same))) ∙ and-false (is_same x y)

pub not_as_long : (these those : List HeldMeaning) → (length these ≡ length those → ⊥) → false ≡ are_same (all_held these) (all_held those)
not_as_long these those other = sym (other_lengths (all_held these) (all_held those) (λ same. other (sym (length-map these of_held) ∙ same ∙ length-map those of_held)))
