-- A comparison of numbers is one of their bits.
use Rattle.std.proofs.Common.{◌≡◌, refl, ◌∙◌, ap, ap₂, ℕ, ◌+◌, ◌-◌, ◌*◌, ◌<◌, ◌≤◌, Bool, true, false, not, ◌==◌, nat_lt, nat_le, if◌then◌else◌, ℤ, pos, negsuc, ◌-ℤ◌, int_le, int_lt, arith}
use Rattle.std.specs.Ordering.{int_eq}
use Rattle.std.proofs.lemmas.Int.{ints}
use Rattle.std.specs.Int.Bits.{bit_xor, xor_add_and, xor_zero_r}
use Rattle.std.proofs.lemmas.Nat.Bits.{and_pow}
use Rattle.lc_model.specs.declared.field.FieldType.{FieldType}
use Rattle.lc_model.specs.declared.field.FieldType.TheVariants.{U8, I8, U16Be, U16Le, I16Be, I16Le, U32Be, U32Le, I32Be, I32Le}
use Rattle.lc_model.specs.declared.field.CmpOp.{CmpOp}
use Rattle.lc_model.specs.declared.field.CmpOp.TheVariants.{Less, LessOrEqual, NotEqual, Equal, GreaterOrEqual, Greater}
use Rattle.lc_model.specs.Field.{is_in_type, least, greatest, full_mask, sign_weight, twos_complement, compares}
use Rattle.lc_model.proofs.Facts.{tested_at_most, and_first, and_second}
use Rattle.limit_engine.specs.Ranges.{ordered, range_to, range_of, holds_in}

-- ---- bits

-- the sign's bit turned
turned_8 : (x : ℕ) → x < 256 → bit_xor x 128 ≡ (if nat_le 128 x then x - 128 else x + 128)
turned_8 x small = grind (arith, xor_add_and x 128, and_pow x 7, small)

turned_16 : (x : ℕ) → x < 65536 → bit_xor x 32768 ≡ (if nat_le 32768 x then x - 32768 else x + 32768)
turned_16 x small = grind (arith, xor_add_and x 32768, and_pow x 15, small)

turned_32 : (x : ℕ) → x < 4294967296 → bit_xor x 2147483648 ≡ (if nat_le 2147483648 x then x - 2147483648 else x + 2147483648)
turned_32 x small = grind (arith, xor_add_and x 2147483648, and_pow x 31, small)

-- numbers are their bits less the sign's weight
pub record IsOrdered (sign bits : ℕ) (value : ℤ) : Type 0 where
  pub is : value ≡ pos bits -ℤ pos sign
  pub small : bits < 4294967296

-- bits of a signed type
signed_bits : (half x y : ℕ) → y ≡ (if nat_le half x then x - half else x + half) → x < 2 * half → 2 * half ≤ 4294967296 →
    IsOrdered half y (if nat_le half x then pos x -ℤ pos (2 * half) else pos x)
signed_bits half x y y_is small most = go (nat_le half x) refl y_is
  where
    go : (b : Bool) → nat_le half x ≡ b → y ≡ (if b then x - half else x + half) → IsOrdered half y (if b then pos x -ℤ pos (2 * half) else pos x)
    go true is e = let at : half ≤ x = tested_at_most half x is in record { is = omega (arith, ints, at, e); small = omega (arith, at, e, small, most) }
    go false is e = let at : x < half = grind (arith, is) in record { is = omega (arith, ints, e); small = omega (arith, at, e, most) }

plain_bits : (x y : ℕ) → y ≡ x → x < 4294967296 → IsOrdered 0 y (pos x)
plain_bits x y e small = record { is = omega (arith, ints, e); small = omega (arith, e, small) }

pub bits_ordered : (k : FieldType) (x : ℕ) → x ≤ full_mask k → IsOrdered (sign_weight k) (bit_xor x (sign_weight k)) (twos_complement k x)
bits_ordered U8 x few = plain_bits x _ (xor_zero_r x) (omega (arith, few))
bits_ordered U16Be x few = plain_bits x _ (xor_zero_r x) (omega (arith, few))
bits_ordered U16Le x few = plain_bits x _ (xor_zero_r x) (omega (arith, few))
bits_ordered U32Be x few = plain_bits x _ (xor_zero_r x) (omega (arith, few))
bits_ordered U32Le x few = plain_bits x _ (xor_zero_r x) (omega (arith, few))
bits_ordered I8 x few = let small : x < 256 = omega (arith, few) in signed_bits 128 x _ (turned_8 x small) small (omega arith)
bits_ordered I16Be x few = let small : x < 65536 = omega (arith, few) in signed_bits 32768 x _ (turned_16 x small) small (omega arith)
bits_ordered I16Le x few = let small : x < 65536 = omega (arith, few) in signed_bits 32768 x _ (turned_16 x small) small (omega arith)
bits_ordered I32Be x few = let small : x < 4294967296 = omega (arith, few) in signed_bits 2147483648 x _ (turned_32 x small) small (omega arith)
bits_ordered I32Le x few = let small : x < 4294967296 = omega (arith, few) in signed_bits 2147483648 x _ (turned_32 x small) small (omega arith)

-- ---- the number that is compared with

not_negative : (s n most : ℕ) → n ≤ most → s + most < 4294967296 → IsOrdered s (s + n) (pos n)
not_negative s n most few room = record { is = omega (arith, ints); small = omega (arith, few, room) }

negative : (s n : ℕ) → n + 1 ≤ s → s < 4294967296 → IsOrdered s (s - (n + 1)) (negsuc n)
negative s n few room = record { is = omega (arith, ints, few); small = omega (arith, room) }

pub value_ordered : (k : FieldType) (v : ℤ) → is_in_type k v ≡ true → IsOrdered (sign_weight k) (ordered k v) v
value_ordered U8 (pos n) e = not_negative 0 n 255 (tested_at_most n 255 (and_second _ _ e)) (omega arith)
value_ordered U16Be (pos n) e = not_negative 0 n 65535 (tested_at_most n 65535 (and_second _ _ e)) (omega arith)
value_ordered U16Le (pos n) e = not_negative 0 n 65535 (tested_at_most n 65535 (and_second _ _ e)) (omega arith)
value_ordered U32Be (pos n) e = not_negative 0 n 4294967295 (tested_at_most n 4294967295 (and_second _ _ e)) (omega arith)
value_ordered U32Le (pos n) e = not_negative 0 n 4294967295 (tested_at_most n 4294967295 (and_second _ _ e)) (omega arith)
value_ordered I8 (pos n) e = not_negative 128 n 127 (tested_at_most n 127 (and_second (int_le (least I8) (pos n)) _ e)) (omega arith)
value_ordered I16Be (pos n) e = not_negative 32768 n 32767 (tested_at_most n 32767 (and_second (int_le (least I16Be) (pos n)) _ e)) (omega arith)
value_ordered I16Le (pos n) e = not_negative 32768 n 32767 (tested_at_most n 32767 (and_second (int_le (least I16Le) (pos n)) _ e)) (omega arith)
value_ordered I32Be (pos n) e = not_negative 2147483648 n 2147483647 (tested_at_most n 2147483647 (and_second (int_le (least I32Be) (pos n)) _ e)) (omega arith)
value_ordered I32Le (pos n) e = not_negative 2147483648 n 2147483647 (tested_at_most n 2147483647 (and_second (int_le (least I32Le) (pos n)) _ e)) (omega arith)
value_ordered U8 (negsuc n) e = absurd (cc e)
value_ordered U16Be (negsuc n) e = absurd (cc e)
value_ordered U16Le (negsuc n) e = absurd (cc e)
value_ordered U32Be (negsuc n) e = absurd (cc e)
value_ordered U32Le (negsuc n) e = absurd (cc e)
value_ordered I8 (negsuc n) e = negative 128 n (omega (arith, tested_at_most n 127 (and_first _ (int_le (negsuc n) (greatest I8)) e))) (omega arith)
value_ordered I16Be (negsuc n) e = negative 32768 n (omega (arith, tested_at_most n 32767 (and_first _ (int_le (negsuc n) (greatest I16Be)) e))) (omega arith)
value_ordered I16Le (negsuc n) e = negative 32768 n (omega (arith, tested_at_most n 32767 (and_first _ (int_le (negsuc n) (greatest I16Le)) e))) (omega arith)
value_ordered I32Be (negsuc n) e = negative 2147483648 n (omega (arith, tested_at_most n 2147483647 (and_first _ (int_le (negsuc n) (greatest I32Be)) e))) (omega arith)
value_ordered I32Le (negsuc n) e = negative 2147483648 n (omega (arith, tested_at_most n 2147483647 (and_first _ (int_le (negsuc n) (greatest I32Le)) e))) (omega arith)

-- ---- comparisons

less : (s y c : ℕ) → int_lt (pos y -ℤ pos s) (pos c -ℤ pos s) ≡ nat_lt y c
less s y c = grind (arith, ints)

at_most : (s y c : ℕ) → int_le (pos y -ℤ pos s) (pos c -ℤ pos s) ≡ nat_le y c
at_most s y c = grind (arith, ints)

equal : (s y c : ℕ) → int_eq (pos y -ℤ pos s) (pos c -ℤ pos s) ≡ (y == c)
equal s y c = grind (arith, ints)

-- the comparison of bits
ranged : (op : CmpOp) (s y c : ℕ) → y < 4294967296 → c < 4294967296 → compares op (pos y -ℤ pos s) (pos c -ℤ pos s) ≡ holds_in (range_to op c) y
ranged Less s y c small within = less s y c ∙ grind (arith, small, within)
ranged GreaterOrEqual s y c small within = at_most s c y ∙ grind (arith, small, within)
ranged LessOrEqual s y c small within = at_most s y c ∙ grind (arith, small, within)
ranged Greater s y c small within = less s c y ∙ grind (arith, small, within)
ranged Equal s y c small within = equal s y c ∙ grind (arith, small, within)
ranged NotEqual s y c small within = ap not (equal s y c) ∙ grind (arith, small, within)

-- the six comparisons are ranges
pub compared : (k : FieldType) (op : CmpOp) (x : ℕ) (v : ℤ) → x ≤ full_mask k → is_in_type k v ≡ true →
    compares op (twos_complement k x) v ≡ holds_in (range_of k op v) (bit_xor x (sign_weight k))
compared k op x v few in_type =
    let left = bits_ordered k x few in
    let right = value_ordered k v in_type in
    ap₂ (compares op) left.is right.is ∙ ranged op (sign_weight k) (bit_xor x (sign_weight k)) (ordered k v) left.small right.small
