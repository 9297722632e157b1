-- The numbers that fit a mask. This project's own.
use Rattle.std.specs.Prelude.{◌≡◌, ℕ, ◌≤◌, ◌<◌, Option, Some, None, bit_and}

-- only bits of the mask are set
abbrev pub Fits : ℕ → ℕ → Type 0
Fits mask n = bit_and n mask ≡ n

-- the least such number that is not below this one
pub record IsLeastFrom (mask from n : ℕ) : Type 0 where
  pub fits : Fits mask n
  pub reaches : from ≤ n
  pub least : (other : ℕ) → Fits mask other → from ≤ other → n ≤ other

-- or that there is none
abbrev pub IsNextBits : ℕ → ℕ → Option ℕ → Type 0
IsNextBits mask from (Some n) = IsLeastFrom mask from n
IsNextBits mask from None = (other : ℕ) → Fits mask other → other < from
