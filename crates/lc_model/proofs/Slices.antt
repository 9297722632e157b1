-- Parts of slices.
use Rattle.std.proofs.Common.{◌≡◌, ◌∙◌, ℕ, ◌+◌, ◌-◌, List, ◌++◌, arith, length, take, drop, sym, ap, take_all, length-drop}
use lib.Seq.{take-add}

-- the front up to a, and the first n elements behind it
pub take-range : (a n : ℕ) (xs : List ℕ) → take a xs ++ take n (take (length xs - a) (drop a xs)) ≡ take (a + n) xs
take-range a n xs =
    ap (λ ys. take a xs ++ take n ys) (take_all (length xs - a) (drop a xs) (omega (arith, length-drop a xs))) ∙ sym (take-add a n xs)
