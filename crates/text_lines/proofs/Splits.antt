-- A list that is parted at some of its elements is what std's `split` gives.
use Rattle.std.proofs.Common.{◌≡◌, refl, sym, ◌∙◌, ap, ℕ, ◌+◌, Bool, true, false, List, [], ◌∷◌, ◌++◌, length, count_by}
use Rattle.std.specs.Prelude.{All}
use Rattle.std.specs.List.{slice_split}
use Rattle.std.specs.List as list
use Rattle.std.proofs.lemmas.List.Splits.{length-slice_split, slice_split_at, slice_split_none}
use Rattle.lc_model.specs.Host.ScheduleText.{onto_first, parted}

same_first : (x : ℕ) (pieces : List (List ℕ)) → onto_first x pieces ≡ list.onto_first x pieces
same_first x [] = refl
same_first x (piece ∷ pieces) = refl

module _ (parts : ℕ → Bool) where
  pub parted_is_split : (xs : List ℕ) → parted parts xs ≡ slice_split parts xs
  parted_is_split [] = refl
  parted_is_split (x ∷ xs) = by_test (parts x) refl (parted_is_split xs)
    where
      by_test : (b : Bool) → parts x ≡ b → parted parts xs ≡ slice_split parts xs → parted parts (x ∷ xs) ≡ slice_split parts (x ∷ xs)
      by_test true is later = rw is (ap (λ (rest : List (List ℕ)). [] ∷ rest) later)
      by_test false is later = rw is (ap (onto_first x) later ∙ same_first x (slice_split parts xs))

  -- where nothing parts it, the list is the one part
  pub parted_none : (xs : List ℕ) → All (λ x. parts x ≡ false) xs → parted parts xs ≡ xs ∷ []
  parted_none xs none = parted_is_split xs ∙ slice_split_none parts xs none

  -- the first part ends at the first element that parts
  pub parted_at : (xs : List ℕ) (y : ℕ) (ys : List ℕ) → All (λ x. parts x ≡ false) xs → parts y ≡ true → parted parts (xs ++ y ∷ ys) ≡ xs ∷ parted parts ys
  parted_at xs y ys none is =
      parted_is_split (xs ++ y ∷ ys)
      ∙ (slice_split_at parts xs y ys none is
      ∙ ap (λ (rest : List (List ℕ)). xs ∷ rest) (sym (parted_is_split ys)))

  -- one part more than elements that part
  pub length-parted : (xs : List ℕ) → length (parted parts xs) ≡ count_by parts xs + 1
  length-parted xs = ap length (parted_is_split xs) ∙ length-slice_split parts xs
