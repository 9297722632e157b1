-- A value that has bits under its field's mask alone is read once it is written.
use Rattle.std.proofs.Common.{◌≡◌, refl, sym, ◌∙◌, ap, subst, lit<, ℕ, zero, suc, ◌+◌, ◌-◌, ◌%◌, ◌<◌, ◌≤◌, ◌^◌, Bool, true, false, ◌==◌, nat_le, List, [], ◌∷◌, ◌++◌, length, take, drop, append_assoc, bit_and, Ok, ℤ, pos, negsuc, ◌-ℤ◌, int_le, if◌then◌else◌, arith}
use Rattle.std.specs.Prelude.{slice_range}
use Rattle.std.specs.Int.{w16, w32, bit_not, from_be_bytes, from_le_bytes, to_be_bytes, to_le_bytes}
use Rattle.std.specs.Ordering.{int_eq}
use Rattle.std.proofs.Math.Nat.{mod-eq_of_lt}
use Rattle.std.proofs.Math.Seq.{drop-append_seam, take-append_seam}
use Rattle.std.proofs.lemmas.Bool.Decides.{Decides-eqb, Decides-int_eq}
use Rattle.std.proofs.lemmas.Grind.{and-not_self}
use Rattle.std.proofs.lemmas.Int.{ints}
use Rattle.std.specs.Int.Bits.{mask_lt}
use Rattle.std.proofs.lemmas.List.{length-append, length-drop, length-take-le}
use Rattle.std.proofs.lemmas.Nat.{and_le_l, and_mask, and_or_apart, from_be_bytes-to_be_bytes_2, from_be_bytes-to_be_bytes_4, from_le_bytes-to_le_bytes_2, from_le_bytes-to_le_bytes_4, or_lt}
use Rattle.lc_model.specs.declared.field.FieldType.{FieldType}
use Rattle.lc_model.specs.declared.field.FieldType.TheVariants.{U8, I8, U16Be, U16Le, I16Be, I16Le, U32Be, U32Le, I32Be, I32Le}
use Rattle.lc_model.specs.Field.{bit_width, field_bytes, full_mask, greatest, is_in_type, least, raw, twos_complement, width}
use Rattle.lc_model.specs.Tables.Image.{bits_32}
use Rattle.lc_model.proofs.Facts.{and_first, and_second, and_true, test_at_most, test_not_at_most, tested_at_most}
use Rattle.stream_script.specs.Fields.{written_at}
use Rattle.scenarios.specs.Fields.{bits_of, bits_there, is_inside, place_of, put_under, reads, value_bits, value_there, with_bits}
use Rattle.scenarios.specs.HostReads.{AreBytes, WrittenValuesAreRead}
use Rattle.scenarios.specs.Named.{NamedField}

-- ---- numbers of a type, by their bits

small_again : (k n : ℕ) → n < 2 ^ k → bit_and n (2 ^ k - 1) ≡ n
small_again k n few = and_mask n k ∙ mod-eq_of_lt few

abbrev of_bits : (half whole : ℕ) → ℕ → ℤ
of_bits half whole n = if nat_le half n then pos n -ℤ pos whole else pos n

low_again : (half whole n : ℕ) → n < half → of_bits half whole n ≡ pos n
low_again half whole n few = ap (λ (top : Bool). if top then pos n -ℤ pos whole else pos n) (test_not_at_most half n few)

negative : (whole n : ℕ) → n < whole → pos (whole - 1 - n) -ℤ pos whole ≡ negsuc n
negative whole n few = omega (arith, ints, few)

high_again : (half whole n : ℕ) → whole ≡ half + half → n < half → of_bits half whole (whole - 1 - n) ≡ negsuc n
high_again half whole n twice few =
    let top : half ≤ whole - 1 - n = omega (arith, twice, few) in
    ap (λ (top : Bool). if top then pos (whole - 1 - n) -ℤ pos whole else pos (whole - 1 - n)) (test_at_most half (whole - 1 - n) top)
    ∙ negative whole n (omega (arith, twice, few))

bits_8 : (n : ℕ) → n < 128 → bit_and (4294967295 - n) 255 ≡ 255 - n
bits_8 n few = and_mask (4294967295 - n) 8 ∙ omega (arith, few)

bits_16 : (n : ℕ) → n < 32768 → bit_and (4294967295 - n) 65535 ≡ 65535 - n
bits_16 n few = and_mask (4294967295 - n) 16 ∙ omega (arith, few)

bits_of_all : (n : ℕ) → n < 2147483648 → bit_and (4294967295 - n) 4294967295 ≡ 4294967295 - n
bits_of_all n few = and_mask (4294967295 - n) 32 ∙ omega (arith, few)

-- what a number's bits say is the number
abbrev SaysAgain : FieldType → ℤ → Type 0
SaysAgain k z = is_in_type k z ≡ true → twos_complement k (bit_and (bits_32 z) (full_mask k)) ≡ z

says_again : (k : FieldType) (z : ℤ) → SaysAgain k z
says_again U8 (pos n) e = ap (λ (m : ℕ). pos m) (small_again 8 n (omega (arith, tested_at_most n 255 (and_second _ _ e))))
says_again U16Be (pos n) e = ap (λ (m : ℕ). pos m) (small_again 16 n (omega (arith, tested_at_most n 65535 (and_second _ _ e))))
says_again U16Le (pos n) e = ap (λ (m : ℕ). pos m) (small_again 16 n (omega (arith, tested_at_most n 65535 (and_second _ _ e))))
says_again U32Be (pos n) e = ap (λ (m : ℕ). pos m) (small_again 32 n (omega (arith, tested_at_most n 4294967295 (and_second _ _ e))))
says_again U32Le (pos n) e = ap (λ (m : ℕ). pos m) (small_again 32 n (omega (arith, tested_at_most n 4294967295 (and_second _ _ e))))
says_again I8 (pos n) e =
    let few : n < 128 = omega (arith, tested_at_most n 127 (and_second (int_le (least I8) (pos n)) _ e)) in
    ap (of_bits 128 256) (small_again 8 n (omega (arith, few))) ∙ low_again 128 256 n few
says_again I16Be (pos n) e =
    let few : n < 32768 = omega (arith, tested_at_most n 32767 (and_second (int_le (least I16Be) (pos n)) _ e)) in
    ap (of_bits 32768 65536) (small_again 16 n (omega (arith, few))) ∙ low_again 32768 65536 n few
says_again I16Le (pos n) e =
    let few : n < 32768 = omega (arith, tested_at_most n 32767 (and_second (int_le (least I16Le) (pos n)) _ e)) in
    ap (of_bits 32768 65536) (small_again 16 n (omega (arith, few))) ∙ low_again 32768 65536 n few
says_again I32Be (pos n) e =
    let few : n < 2147483648 = omega (arith, tested_at_most n 2147483647 (and_second (int_le (least I32Be) (pos n)) _ e)) in
    ap (of_bits 2147483648 4294967296) (small_again 32 n (omega (arith, few))) ∙ low_again 2147483648 4294967296 n few
says_again I32Le (pos n) e =
    let few : n < 2147483648 = omega (arith, tested_at_most n 2147483647 (and_second (int_le (least I32Le) (pos n)) _ e)) in
    ap (of_bits 2147483648 4294967296) (small_again 32 n (omega (arith, few))) ∙ low_again 2147483648 4294967296 n few
says_again U8 (negsuc n) e = absurd (cc e)
says_again U16Be (negsuc n) e = absurd (cc e)
says_again U16Le (negsuc n) e = absurd (cc e)
says_again U32Be (negsuc n) e = absurd (cc e)
says_again U32Le (negsuc n) e = absurd (cc e)
says_again I8 (negsuc n) e =
    let few : n < 128 = omega (arith, tested_at_most n 127 (and_first _ (int_le (negsuc n) (greatest I8)) e)) in
    ap (of_bits 128 256) (bits_8 n few) ∙ high_again 128 256 n refl few
says_again I16Be (negsuc n) e =
    let few : n < 32768 = omega (arith, tested_at_most n 32767 (and_first _ (int_le (negsuc n) (greatest I16Be)) e)) in
    ap (of_bits 32768 65536) (bits_16 n few) ∙ high_again 32768 65536 n refl few
says_again I16Le (negsuc n) e =
    let few : n < 32768 = omega (arith, tested_at_most n 32767 (and_first _ (int_le (negsuc n) (greatest I16Le)) e)) in
    ap (of_bits 32768 65536) (bits_16 n few) ∙ high_again 32768 65536 n refl few
says_again I32Be (negsuc n) e =
    let few : n < 2147483648 = omega (arith, tested_at_most n 2147483647 (and_first _ (int_le (negsuc n) (greatest I32Be)) e)) in
    ap (of_bits 2147483648 4294967296) (bits_of_all n few) ∙ high_again 2147483648 4294967296 n refl few
says_again I32Le (negsuc n) e =
    let few : n < 2147483648 = omega (arith, tested_at_most n 2147483647 (and_first _ (int_le (negsuc n) (greatest I32Le)) e)) in
    ap (of_bits 2147483648 4294967296) (bits_of_all n few) ∙ high_again 2147483648 4294967296 n refl few

-- ---- bits as bytes of a type

pub field_size : (k : FieldType) (n : ℕ) → length (field_bytes k n) ≡ width k
field_size U8 n = refl
field_size I8 n = refl
field_size U16Be n = refl
field_size U16Le n = refl
field_size I16Be n = refl
field_size I16Le n = refl
field_size U32Be n = refl
field_size U32Le n = refl
field_size I32Be n = refl
field_size I32Le n = refl

be_16 : (n : ℕ) → n < 2 ^ 16 → from_be_bytes w16 (to_be_bytes w16 (n % 2 ^ 16)) ≡ n
be_16 n few = ap (λ (m : ℕ). from_be_bytes w16 (to_be_bytes w16 m)) (mod-eq_of_lt few) ∙ from_be_bytes-to_be_bytes_2 n few

le_16 : (n : ℕ) → n < 2 ^ 16 → from_le_bytes w16 (to_le_bytes w16 (n % 2 ^ 16)) ≡ n
le_16 n few = ap (λ (m : ℕ). from_le_bytes w16 (to_le_bytes w16 m)) (mod-eq_of_lt few) ∙ from_le_bytes-to_le_bytes_2 n few

raw_again : (k : FieldType) (n : ℕ) → n < 2 ^ bit_width k → raw k (field_bytes k n) ≡ n
raw_again U8 n few = mod-eq_of_lt few
raw_again I8 n few = mod-eq_of_lt few
raw_again U16Be n few = be_16 n few
raw_again U16Le n few = le_16 n few
raw_again I16Be n few = be_16 n few
raw_again I16Le n few = le_16 n few
raw_again U32Be n few = from_be_bytes-to_be_bytes_4 n few
raw_again U32Le n few = from_le_bytes-to_le_bytes_4 n few
raw_again I32Be n few = from_be_bytes-to_be_bytes_4 n few
raw_again I32Le n few = from_le_bytes-to_le_bytes_4 n few

behind : (n : ℕ) (xs : List ℕ) → AreBytes xs → AreBytes (drop n xs)
behind zero xs are = are
behind (suc n) [] are = are
behind (suc n) (x ∷ xs) are = behind n xs (λ i. are (suc i))

before : (n : ℕ) (xs : List ℕ) → AreBytes xs → AreBytes (take n xs)
before zero xs are i = lit< tt
before (suc n) [] are i = are i
before (suc n) (x ∷ xs) are zero = are 0
before (suc n) (x ∷ xs) are (suc i) = before n xs (λ j. are (suc j)) i

be_two : (xs : List ℕ) → length xs ≡ 2 → AreBytes xs → from_be_bytes w16 xs < 2 ^ 16
be_two [] long are = absurd (omega (arith, long))
be_two (a ∷ []) long are = absurd (omega (arith, long))
be_two (a ∷ b ∷ xs) long are = omega (arith, are 0, are 1)

le_two : (xs : List ℕ) → length xs ≡ 2 → AreBytes xs → from_le_bytes w16 xs < 2 ^ 16
le_two [] long are = absurd (omega (arith, long))
le_two (a ∷ []) long are = absurd (omega (arith, long))
le_two (a ∷ b ∷ xs) long are = omega (arith, are 0, are 1)

be_four : (xs : List ℕ) → length xs ≡ 4 → AreBytes xs → from_be_bytes w32 xs < 2 ^ 32
be_four [] long are = absurd (omega (arith, long))
be_four (a ∷ []) long are = absurd (omega (arith, long))
be_four (a ∷ b ∷ []) long are = absurd (omega (arith, long))
be_four (a ∷ b ∷ c ∷ []) long are = absurd (omega (arith, long))
be_four (a ∷ b ∷ c ∷ d ∷ xs) long are = omega (arith, are 0, are 1, are 2, are 3)

le_four : (xs : List ℕ) → length xs ≡ 4 → AreBytes xs → from_le_bytes w32 xs < 2 ^ 32
le_four [] long are = absurd (omega (arith, long))
le_four (a ∷ []) long are = absurd (omega (arith, long))
le_four (a ∷ b ∷ []) long are = absurd (omega (arith, long))
le_four (a ∷ b ∷ c ∷ []) long are = absurd (omega (arith, long))
le_four (a ∷ b ∷ c ∷ d ∷ xs) long are = omega (arith, are 0, are 1, are 2, are 3)

raw_small : (k : FieldType) (xs : List ℕ) → length xs ≡ width k → AreBytes xs → raw k xs < 2 ^ bit_width k
raw_small U8 xs long are = are 0
raw_small I8 xs long are = are 0
raw_small U16Be xs long are = be_two xs long are
raw_small U16Le xs long are = le_two xs long are
raw_small I16Be xs long are = be_two xs long are
raw_small I16Le xs long are = le_two xs long are
raw_small U32Be xs long are = be_four xs long are
raw_small U32Le xs long are = le_four xs long are
raw_small I32Be xs long are = be_four xs long are
raw_small I32Le xs long are = le_four xs long are

-- ---- bits under a mask

under_again : (mask bits there : ℕ) → mask < 2 ^ 32 → bit_and bits mask ≡ bits → bit_and (put_under mask bits there) mask ≡ bits
under_again mask bits there small own =
    let most : mask ≤ 4294967295 = omega (arith, small) in
    and_or_apart mask bits (bit_and there (bit_not w32 mask)) (and-not_self there 4294967295 mask mask refl most refl) ∙ own

put_small : (k mask bits there : ℕ) → bits < 2 ^ k → there < 2 ^ k → put_under mask bits there < 2 ^ k
put_small k mask bits there few small =
    let less : bit_and there (bit_not w32 mask) ≤ there = and_le_l there (bit_not w32 mask) in
    or_lt k bits (bit_and there (bit_not w32 mask)) few (omega (arith, less, small))

-- ---- bytes at a place

behind_front : (n : ℕ) (front bytes rest : List ℕ) → length front ≡ n → take ((n + length bytes) - n) (drop n (front ++ bytes ++ rest)) ≡ bytes
behind_front n front bytes rest size =
    let one : (n + length bytes) - n ≡ length bytes = omega arith in
    ap (λ (m : ℕ). take m (drop n (front ++ bytes ++ rest))) one
    ∙ ap (λ (m : ℕ). take (length bytes) (drop m (front ++ bytes ++ rest))) (sym size)
    ∙ ap (λ (xs : List ℕ). take (length bytes) (drop (length front) xs)) (append_assoc front bytes rest)
    ∙ ap (λ (xs : List ℕ). take (length bytes) xs) (drop-append_seam front (bytes ++ rest))
    ∙ take-append_seam bytes rest

there_again : (place : ℕ) (bytes payload : List ℕ) → place + length bytes ≤ length payload →
    slice_range (written_at place bytes payload) place (place + length bytes) ≡ bytes
there_again place bytes payload inside =
    let long : place ≤ length payload = omega (arith, inside) in
    behind_front place (take place payload) bytes (drop (place + length bytes) payload) (length-take-le place payload long)

pub same_size : (place : ℕ) (bytes payload : List ℕ) → place + length bytes ≤ length payload → length (written_at place bytes payload) ≡ length payload
same_size place bytes payload inside =
    let long : place ≤ length payload = omega (arith, inside) in
    let front = length-take-le place payload long in
    let rest = length-drop (place + length bytes) payload in
    let both = length-append (take place payload) bytes in
    let all = length-append (take place payload ++ bytes) (drop (place + length bytes) payload) in
    omega (arith, inside, front, rest, both, all)

-- ---- the law

pub record AreBits (f : NamedField) (z : ℤ) (bits : ℕ) : Type 0 where
  pub in_type : is_in_type f.kind z ≡ true
  pub same : bits ≡ bits_of f z
  pub own : bit_and bits f.mask ≡ bits

are_bits : (f : NamedField) (z : ℤ) (bits : ℕ) → value_bits f z ≡ Ok bits → AreBits f z bits
unfolding value_bits
are_bits f z bits it = by_type (is_in_type f.kind z) refl
  where
    by_mask : is_in_type f.kind z ≡ true → (t : Bool) → (bit_and (bits_of f z) f.mask == bits_of f z) ≡ t → AreBits f z bits
    by_mask typed true own =
        let same : bits_of f z ≡ bits = cc (rw (typed, own) at it) in
        record {
          in_type = typed;
          same = sym same;
          own = subst (λ (n : ℕ). bit_and n f.mask ≡ n) same ((Decides-eqb (bit_and (bits_of f z) f.mask) (bits_of f z)).0 own);
        }
    by_mask typed false own = let never = rw (typed, own) at it in cc never

    by_type : (t : Bool) → is_in_type f.kind z ≡ t → AreBits f z bits
    by_type true typed = by_mask typed (bit_and (bits_of f z) f.mask == bits_of f z) refl
    by_type false typed = let never = rw typed at it in cc never

module _ (f : NamedField) (z : ℤ) (bits : ℕ) (payload : List ℕ) (small : f.mask < 2 ^ 32) (are : AreBytes payload) (inside : is_inside f (length payload) ≡ true)
    (own : AreBits f z bits) where
  places : place_of f + width f.kind ≤ length payload
  places = tested_at_most (place_of f + width f.kind) (length payload) (and_second (nat_le 12 f.offset) (nat_le (place_of f + width f.kind) (length payload)) inside)

  now : ℕ
  now = put_under f.mask bits (bits_there f payload)

  bytes : List ℕ
  bytes = field_bytes f.kind now

  fits : place_of f + length bytes ≤ length payload
  unfolding bytes
  fits = let size = field_size f.kind now in let room = places in omega (arith, size, room)

  few : bits < 2 ^ bit_width f.kind
  few = subst (λ (n : ℕ). n < 2 ^ bit_width f.kind) (sym own.same) (mask_lt (bits_32 z) (bit_width f.kind))

  slice_size : length (slice_range payload (place_of f) (place_of f + width f.kind)) ≡ width f.kind
  slice_size =
      let room = places in
      let left = length-drop (place_of f) payload in
      let enough : (place_of f + width f.kind) - place_of f ≤ length (drop (place_of f) payload) = omega (arith, left, room) in
      length-take-le ((place_of f + width f.kind) - place_of f) (drop (place_of f) payload) enough ∙ omega arith

  now_small : now < 2 ^ bit_width f.kind
  unfolding now
  now_small =
      put_small (bit_width f.kind) f.mask bits (bits_there f payload) few
      (raw_small f.kind (slice_range payload (place_of f) (place_of f + width f.kind)) slice_size
      (before ((place_of f + width f.kind) - place_of f) (drop (place_of f) payload) (behind (place_of f) payload are)))

  bits_again : bits_there f (written_at (place_of f) bytes payload) ≡ now
  unfolding bytes
  bits_again =
      ap (λ (size : ℕ). raw f.kind (slice_range (written_at (place_of f) bytes payload) (place_of f) (place_of f + size))) (sym (field_size f.kind now))
      ∙ ap (raw f.kind) (there_again (place_of f) bytes payload fits) ∙ raw_again f.kind now now_small

  value_again : value_there f (written_at (place_of f) bytes payload) ≡ z
  unfolding now
  value_again =
      ap (λ (n : ℕ). twos_complement f.kind (bit_and n f.mask)) bits_again
      ∙ ap (twos_complement f.kind) (under_again f.mask bits (bits_there f payload) small own.own ∙ own.same)
      ∙ says_again f.kind z own.in_type

  pub read_again : reads f z (with_bits f bits payload) ≡ true
  unfolding reads with_bits bytes now
  read_again =
      and_true (is_inside f (length (written_at (place_of f) bytes payload))) (int_eq (value_there f (written_at (place_of f) bytes payload)) z)
      (ap (is_inside f) (same_size (place_of f) bytes payload fits) ∙ inside) ((Decides-int_eq (value_there f (written_at (place_of f) bytes payload)) z).1 value_again)

pub written_are_read : WrittenValuesAreRead
written_are_read f z bits payload small are inside own = read_again f z bits payload small are inside (are_bits f z bits own)
