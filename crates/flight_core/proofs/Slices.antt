-- Parts of lists.
use Rattle.std.proofs.Common.{◌≡◌, ℕ, ◌-◌, List, length, take, drop, arith, take_all, length-drop}

-- all that is left from a place on
pub take-rest : (n : ℕ) (xs : List ℕ) → take (length xs - n) (drop n xs) ≡ drop n xs
take-rest n xs = take_all (length xs - n) (drop n xs) (omega (arith, length-drop n xs))
