-- Numbers that fit 32 bits with the sign of a type, and are read again.
use Rattle.std.proofs.Common.{◌≡◌, refl, ◌∙◌, ap, ℕ, ◌-◌, ◌<◌, ◌^◌, Bool, true, false, ◌&&◌, nat_le, nat_lt, ℤ, pos, negsuc, ◌-ℤ◌, int_le, int_lt, if◌then◌else◌, arith}
use Rattle.std.proofs.lemmas.Int.{ints}
use Rattle.lc_model.specs.declared.field.FieldType.{FieldType}
use Rattle.lc_model.specs.Field.{is_signed, is_in_type}
use Rattle.lc_model.specs.Tables.Image.{bits_32, fits_32_bits, twos_complement_32}
use Rattle.lc_model.proofs.Facts.{test_at_most, test_not_at_most}
use Rattle.lc_model.proofs.FieldTypes.{half, fits, high, low, fits_high, high_of, low_of}

-- a number of a type fits
pub in_type_fits : (k : FieldType) (v : ℤ) → is_in_type k v ≡ true → fits_32_bits k v ≡ true
in_type_fits k (pos n) e = fits_high (is_signed k) n (high_of k n e)
in_type_fits k (negsuc n) e = low_of k n e

-- ---- bits

pub bits_small : (k : FieldType) (v : ℤ) → fits_32_bits k v ≡ true → bits_32 v < 2 ^ 32
bits_small k (pos n) e = small (is_signed k) (high (is_signed k) n e)
  where
    small : (signed : Bool) → n < half signed → n < 4294967296
    small true h = omega (arith, h)
    small false h = h
bits_small k (negsuc n) e = omega arith

-- what 32 bits are, by the sign and the top bit
abbrev number : Bool → Bool → ℕ → ℤ
number signed top n = if signed && top then pos n -ℤ pos 4294967296 else pos n

small_again : (signed : Bool) (n : ℕ) → n < half signed → number signed (nat_le 2147483648 n) n ≡ pos n
small_again true n h = ap (λ top. number true top n) (test_not_at_most 2147483648 n h)
small_again false n h = refl

below_zero : (n : ℕ) → n < 2147483648 → pos (4294967295 - n) -ℤ pos 4294967296 ≡ negsuc n
below_zero n h = omega (arith, ints)

-- the bits of a number that fits are read as it
pub value_again : (k : FieldType) (v : ℤ) → fits_32_bits k v ≡ true → twos_complement_32 k (bits_32 v) ≡ v
value_again k (pos n) e = small_again (is_signed k) n (high (is_signed k) n e)
value_again k (negsuc n) e =
    let is = low (is_signed k) n e in
    (λ i. number (is.0 i) (test_at_most 2147483648 (4294967295 - n) (omega (arith, is.1)) i) (4294967295 - n)) ∙ below_zero n is.1
