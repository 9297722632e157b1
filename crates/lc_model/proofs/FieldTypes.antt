-- What holds of each of the ten types, shown type by type. A new type gets its rows here.
use Rattle.std.proofs.Common.{◌≡◌, refl, sym, ◌∙◌, ap, ℕ, ◌<◌, ◌≤◌, ◌^◌, Bool, true, false, ◌&&◌, nat_le, nat_lt, Some, ℤ, pos, negsuc, int_le, int_lt, if◌then◌else◌, arith}
use Rattle.std.specs.Prelude.{neg_ℤ}
use Rattle.std.specs.List.{AllPass}
use Rattle.lc_model.specs.declared.field.FieldType.{FieldType}
use Rattle.lc_model.specs.declared.field.FieldType.TheVariants.{U8, I8, U16Be, U16Le, I16Be, I16Le, U32Be, U32Le, I32Be, I32Le}
use Rattle.lc_model.specs.Codes.{type_code}
use Rattle.lc_model.specs.Field.{is_signed, is_in_type, full_mask, least, greatest}
use Rattle.lc_model.specs.Tables.Image.{type_of_code, types}
use Rattle.lc_model.proofs.Facts.{tested_at_most, tested_less, test_less, test_at_most, and_first, and_second, and_true}

-- ---- numbers of types

pub type_again : (k : FieldType) → type_of_code (type_code k) ≡ Some k
type_again = elim [ U8 ↦ refl | I8 ↦ refl | U16Be ↦ refl | U16Le ↦ refl | I16Be ↦ refl | I16Le ↦ refl | U32Be ↦ refl | U32Le ↦ refl | I32Be ↦ refl | I32Le ↦ refl ]

pub one_type : (k l : FieldType) → type_code k ≡ type_code l → k ≡ l
one_type k l e = let found : Some k ≡ Some l = sym (type_again k) ∙ ap type_of_code e ∙ type_again l in cc found

pub type_byte : (k : FieldType) → type_code k < 256
type_byte = elim [ U8 ↦ omega arith | I8 ↦ omega arith | U16Be ↦ omega arith | U16Le ↦ omega arith | I16Be ↦ omega arith | I16Le ↦ omega arith | U32Be ↦ omega arith | U32Le ↦ omega arith | I32Be ↦ omega arith | I32Le ↦ omega arith ]

-- what holds of all types holds of each
pub of_type : (test : FieldType → Bool) → AllPass test types → (k : FieldType) → test k ≡ true
of_type test all U8 = all 0 U8 (omega arith)
of_type test all I8 = all 1 U8 (omega arith)
of_type test all U16Be = all 2 U8 (omega arith)
of_type test all U16Le = all 3 U8 (omega arith)
of_type test all I16Be = all 4 U8 (omega arith)
of_type test all I16Le = all 5 U8 (omega arith)
of_type test all U32Be = all 6 U8 (omega arith)
of_type test all U32Le = all 7 U8 (omega arith)
of_type test all I32Be = all 8 U8 (omega arith)
of_type test all I32Le = all 9 U8 (omega arith)

-- ---- masks

pub mask_small : (k : FieldType) → full_mask k < 2 ^ 32
mask_small = elim [ U8 ↦ omega arith | I8 ↦ omega arith | U16Be ↦ omega arith | U16Le ↦ omega arith | I16Be ↦ omega arith | I16Le ↦ omega arith | U32Be ↦ omega arith | U32Le ↦ omega arith | I32Be ↦ omega arith | I32Le ↦ omega arith ]

pub some_bit : (k : FieldType) → 1 ≤ full_mask k
some_bit = elim [ U8 ↦ omega arith | I8 ↦ omega arith | U16Be ↦ omega arith | U16Le ↦ omega arith | I16Be ↦ omega arith | I16Le ↦ omega arith | U32Be ↦ omega arith | U32Le ↦ omega arith | I32Be ↦ omega arith | I32Le ↦ omega arith ]

-- ---- numbers of 32 bits, by the sign

-- how many numbers from 0 on fit
abbrev pub half : Bool → ℕ
half signed = if signed then 2147483648 else 4294967296

abbrev pub fits : Bool → ℤ → Bool
fits signed v =
    if signed then int_le (neg_ℤ (pos 2147483648)) v && int_lt v (pos 2147483648) else int_le (pos 0) v && int_lt v (pos 4294967296)

pub high : (signed : Bool) (n : ℕ) → fits signed (pos n) ≡ true → n < half signed
high true n e = tested_less n 2147483648 (and_second true (nat_lt n 2147483648) e)
high false n e = tested_less n 4294967296 (and_second (int_le (pos 0) (pos n)) (int_lt (pos n) (pos 4294967296)) e)

pub low : (signed : Bool) (n : ℕ) → fits signed (negsuc n) ≡ true → (signed ≡ true) × (n < 2147483648)
low true n e = (refl, omega (arith, tested_at_most n 2147483647 (and_first (nat_le n 2147483647) true e)))
low false n e = absurd (cc e)

pub fits_high : (signed : Bool) (n : ℕ) → n < half signed → fits signed (pos n) ≡ true
fits_high true n h = test_less n 2147483648 h
fits_high false n h = and_true (int_le (pos 0) (pos n)) (int_lt (pos n) (pos 4294967296)) (test_at_most 0 n (omega arith)) (test_less n 4294967296 h)

pub fits_low : (n : ℕ) → n < 2147483648 → fits true (negsuc n) ≡ true
fits_low n h = and_true (nat_le n 2147483647) true (test_at_most n 2147483647 (omega (arith, h))) refl

-- ---- numbers of a type

pub high_of : (k : FieldType) (n : ℕ) → is_in_type k (pos n) ≡ true → n < half (is_signed k)
high_of U8 n e = omega (arith, tested_at_most n 255 (and_second _ _ e))
high_of I8 n e = omega (arith, tested_at_most n 127 (and_second (int_le (least I8) (pos n)) _ e))
high_of U16Be n e = omega (arith, tested_at_most n 65535 (and_second _ _ e))
high_of U16Le n e = omega (arith, tested_at_most n 65535 (and_second _ _ e))
high_of I16Be n e = omega (arith, tested_at_most n 32767 (and_second (int_le (least I16Be) (pos n)) _ e))
high_of I16Le n e = omega (arith, tested_at_most n 32767 (and_second (int_le (least I16Le) (pos n)) _ e))
high_of U32Be n e = omega (arith, tested_at_most n 4294967295 (and_second _ _ e))
high_of U32Le n e = omega (arith, tested_at_most n 4294967295 (and_second _ _ e))
high_of I32Be n e = omega (arith, tested_at_most n 2147483647 (and_second (int_le (least I32Be) (pos n)) _ e))
high_of I32Le n e = omega (arith, tested_at_most n 2147483647 (and_second (int_le (least I32Le) (pos n)) _ e))

pub low_of : (k : FieldType) (n : ℕ) → is_in_type k (negsuc n) ≡ true → fits (is_signed k) (negsuc n) ≡ true
low_of U8 n e = absurd (cc e)
low_of I8 n e = fits_low n (omega (arith, tested_at_most n 127 (and_first _ (int_le (negsuc n) (greatest I8)) e)))
low_of U16Be n e = absurd (cc e)
low_of U16Le n e = absurd (cc e)
low_of I16Be n e = fits_low n (omega (arith, tested_at_most n 32767 (and_first _ (int_le (negsuc n) (greatest I16Be)) e)))
low_of I16Le n e = fits_low n (omega (arith, tested_at_most n 32767 (and_first _ (int_le (negsuc n) (greatest I16Le)) e)))
low_of U32Be n e = absurd (cc e)
low_of U32Le n e = absurd (cc e)
low_of I32Be n e = fits_low n (omega (arith, tested_at_most n 2147483647 (and_first _ (int_le (negsuc n) (greatest I32Be)) e)))
low_of I32Le n e = fits_low n (omega (arith, tested_at_most n 2147483647 (and_first _ (int_le (negsuc n) (greatest I32Le)) e)))
