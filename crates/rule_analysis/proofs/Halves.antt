-- Numbers that fit a mask, by their halves.
use Rattle.std.proofs.Common.{◌≡◌, ℕ, ◌+◌, ◌*◌, ◌/◌, ◌%◌, ◌≤◌, ◌<◌, ap, arith, Some, None}
use Rattle.std.specs.Prelude.{bit_and}
use Rattle.std.proofs.lemmas.Nat.{and_le_l, and_le_r}
use lib.Bits.{and_step}
use Rattle.rule_analysis.specs.Numbers.{Fits, IsLeastFrom, IsNextBits}

pub small : (mask n : ℕ) → Fits mask n → n ≤ mask
small mask n fits = omega (arith, and_le_r n mask)

-- the half of a number that fits does, and its last bit is one of the mask's
pub half_fits : (mask n : ℕ) → Fits mask n → Fits (mask / 2) (n / 2)
half_fits mask n fits = omega (arith, and_step n mask, and_le_l (n / 2) (mask / 2))

pub last_bit : (mask n : ℕ) → Fits mask n → n % 2 ≤ mask % 2
last_bit mask n fits = omega (arith, and_step n mask, and_le_l (n / 2) (mask / 2))

-- and back
pub double_fits : (mask n bit : ℕ) → bit ≤ mask % 2 → Fits (mask / 2) n → Fits mask (2 * n + bit)
double_fits mask n bit has fits =
    let halved : (2 * n + bit) / 2 ≡ n = omega arith in
    omega (arith, and_step (2 * n + bit) mask, ap (λ h. bit_and h (mask / 2)) halved)

pub from_zero : (mask : ℕ) → IsNextBits mask 0 (Some 0)
from_zero mask = record {
  fits = omega (arith, and_le_l 0 mask);
  reaches = omega arith;
  least = λ other fits reaches. omega arith;
}

pub no_mask : (from : ℕ) → 0 < from → IsNextBits 0 from None
no_mask from above other fits = omega (arith, and_le_r other 0)

pub odd_none : (mask from : ℕ) → IsNextBits (mask / 2) (from / 2) None → IsNextBits mask from None
odd_none mask from none other fits = omega (arith, none (other / 2) (half_fits mask other fits))

pub even_none : (mask from : ℕ) → mask % 2 ≡ 0 → IsNextBits (mask / 2) (from / 2 + from % 2) None → IsNextBits mask from None
even_none mask from even none other fits = omega (arith, none (other / 2) (half_fits mask other fits), last_bit mask other fits)

pub odd_below : (mask from half : ℕ) → mask % 2 ≡ 1 → 2 * half < from → IsLeastFrom (mask / 2) (from / 2) half → IsLeastFrom mask from (2 * half + 1)
odd_below mask from half odd below is = record {
  fits = double_fits mask half 1 (omega arith) is.fits;
  reaches = omega (arith, is.reaches);
  least = λ other fits reaches. omega (arith, is.least (other / 2) (half_fits mask other fits) (omega arith));
}

pub odd_there : (mask from half : ℕ) → mask % 2 ≡ 1 → from ≤ 2 * half → IsLeastFrom (mask / 2) (from / 2) half → IsLeastFrom mask from (2 * half)
odd_there mask from half odd there is = record {
  fits = omega (arith, double_fits mask half 0 (omega arith) is.fits, ap (λ n. bit_and n mask) zero_more);
  reaches = there;
  least = λ other fits reaches. omega (arith, is.least (other / 2) (half_fits mask other fits) (omega arith));
}
  where
    zero_more : 2 * half + 0 ≡ 2 * half
    zero_more = omega arith

pub even_there : (mask from half : ℕ) → mask % 2 ≡ 0 → IsLeastFrom (mask / 2) (from / 2 + from % 2) half → IsLeastFrom mask from (2 * half)
even_there mask from half even is = record {
  fits = omega (arith, double_fits mask half 0 (omega arith) is.fits, ap (λ n. bit_and n mask) zero_more);
  reaches = omega (arith, is.reaches);
  least = λ other fits reaches.
      omega (arith, is.least (other / 2) (half_fits mask other fits) (omega (arith, last_bit mask other fits)), last_bit mask other fits);
}
  where
    zero_more : 2 * half + 0 ≡ 2 * half
    zero_more = omega arith
