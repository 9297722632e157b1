-- What soundness says of an image's parts, and what is read of its bytes.
use Rattle.std.proofs.Common.{◌≡◌, refl, sym, ◌∙◌, ap, subst, ℕ, zero, suc, ◌+◌, ◌<◌, ◌≤◌, ◌^◌, ◌⊎◌, inl, inr, Bool, true, false, cond, ◌&&◌, nat_le, ◌==◌, List, [], ◌∷◌, ◌++◌, length, find, filter_map, drop, get_or, slice_get, Option, Some, None, option_map, pos, negsuc, ◌-ℤ◌, ◌-◌, arith, length-drop}
use Rattle.std.specs.List.{AllByRecursion, cons_option}
use Rattle.std.specs.Option.{option_map_or}
use Rattle.std.proofs.lemmas.Bool.{cases_lt}
use Rattle.std.proofs.lemmas.List.{drop-drop}
use Rattle.std.proofs.lemmas.Nat.{be_bytes_2}
use Rattle.std.proofs.Math.IntN.{sub_ℕ}
use Rattle.lc_model.specs.declared.kind.Kind.{Kind}
use Rattle.lc_model.specs.declared.field.FieldType.{FieldType}
use Rattle.lc_model.specs.Field.{is_signed}
use Rattle.lc_model.specs.Bytes.{u16, u16_at, u32_at}
use Rattle.lc_model.specs.Codes.{is_kind, operator_code, table_entries}
use Rattle.lc_model.specs.Tables.Image.{Layout, bits_32, twos_complement_32, kind_of, image_length, ImageFault, image_fault, preamble_code, first_entry_fault, entry_code, numbers_below, layout_of, wrong_size, IsSound}
use Rattle.lc_model.specs.Tables.Spelled.{operator_of_code}
use Rattle.lc_model.proofs.Tables.FileLaws.{each_byte, bytes_behind}
use Rattle.lc_model.proofs.Facts.{and_first, and_second, tested_equal}

-- ---- what was found passes

pub found_passes : {A : Type 0} (test : A → Bool) (xs : List A) (x : A) → find test xs ≡ Some x → test x ≡ true
found_passes test [] x e = absurd (cc e)
found_passes test (y ∷ xs) x e = go (test y) refl (found_passes test xs x) e
  where
    go : (b : Bool) → test y ≡ b → (find test xs ≡ Some x → test x ≡ true) → cond b (Some y) (find test xs) ≡ Some x → test x ≡ true
    go true is others e = let same : y ≡ x = cc e in subst (λ z. test z ≡ true) same is
    go false is others e = others e

-- ---- a sound image

-- it has a layout, no fault of its preamble and none of an entry
pub record SoundParts (layouts : List Layout) (kind : Kind) (image : List ℕ) : Type 0 where
  pub layout : Layout
  pub found : layout_of layouts kind image ≡ Some layout
  pub of_kind : is_kind kind (kind_of layout) ≡ true
  pub size : image_length layout ≡ length image
  pub preamble : preamble_code layout image ≡ None
  pub entries : (n : ℕ) → n < table_entries → entry_code layout image n ≡ None

none_listed : {A B : Type 0} (h : A → Option B) (xs : List A) → slice_get (filter_map h xs) 0 ≡ None → AllByRecursion (λ x. h x ≡ None) xs
none_listed h [] e = tt
none_listed {B = B} h (x ∷ xs) e = go (h x) refl (none_listed h xs) e
  where
    go : (o : Option B) → h x ≡ o → (slice_get (filter_map h xs) 0 ≡ None → AllByRecursion (λ x. h x ≡ None) xs) →
        slice_get (cons_option o (filter_map h xs)) 0 ≡ None → AllByRecursion (λ x. h x ≡ None) (x ∷ xs)
    go None is others e = (is, others e)
    go (Some y) is others e = absurd (cc e)

last_of : (P : ℕ → Type 0) (xs : List ℕ) (n : ℕ) → AllByRecursion P (xs ++ n ∷ []) → AllByRecursion P xs × P n
last_of P [] n all = (tt, all.0)
last_of P (x ∷ xs) n all = let rest : AllByRecursion P xs × P n = last_of P xs n all.1 in ((all.0, rest.0), rest.1)

-- what holds of all numbers below k
pub each_below : (P : ℕ → Type 0) (k : ℕ) → AllByRecursion P (numbers_below k) → (n : ℕ) → n < k → P n
each_below P zero all n below = absurd (omega (arith, below))
each_below P (suc k) all n below = go (cases_lt n k) (last_of P (numbers_below k) k all) (each_below P k)
  where
    go : (n < k) ⊎ (k ≤ n) → AllByRecursion P (numbers_below k) × P k → (AllByRecursion P (numbers_below k) → (n : ℕ) → n < k → P n) → P n
    go (inl less) parts others = others parts.0 n less
    go (inr more) parts others = let same : k ≡ n = omega (arith, below, more) in subst P same parts.1

abbrev no_fault : Option ImageFault
no_fault = None

no_code : (o : Option ℕ) (n : ℕ) → option_map (λ code. record { code = code; entry = n }) o ≡ no_fault → o ≡ None
no_code None n e = refl
no_code (Some code) n e = absurd (cc e)

pub sound_parts : (layouts : List Layout) (kind : Kind) (image : List ℕ) → IsSound layouts kind image → SoundParts layouts kind image
sound_parts layouts kind image sound = go (layout_of layouts kind image) refl sound
  where
    no_entry : (l : Layout) → first_entry_fault l image ≡ None → (n : ℕ) → n < table_entries → entry_code l image n ≡ None
    no_entry l e n below =
        no_code (entry_code l image n) n (each_below (λ m. option_map (λ code. record { code = code; entry = m }) (entry_code l image m) ≡ no_fault) table_entries
        (none_listed (λ m. option_map (λ code. record { code = code; entry = m }) (entry_code l image m)) (numbers_below table_entries) e) n below)

    by_code : (l : Layout) → layout_of layouts kind image ≡ Some l → (is_kind kind (kind_of l) && (image_length l == length image)) ≡ true →
        (o : Option ℕ) → preamble_code l image ≡ o → image_fault l image o ≡ None → SoundParts layouts kind image
    by_code l found passes None is e = record {
      layout = l;
      found = found;
      of_kind = and_first (is_kind kind (kind_of l)) (image_length l == length image) passes;
      size = tested_equal (image_length l) (length image) (and_second (is_kind kind (kind_of l)) (image_length l == length image) passes);
      preamble = is;
      entries = no_entry l e;
    }
    by_code l found passes (Some code) is e = absurd (cc e)

    go : (o : Option Layout) → layout_of layouts kind image ≡ o →
        option_map_or (λ l. image_fault l image (preamble_code l image)) o (Some wrong_size) ≡ None → SoundParts layouts kind image
    go None is e = absurd (cc e)
    go (Some l) is e =
        by_code l is (found_passes (λ m. is_kind kind (kind_of m) && (image_length m == length image)) layouts l is) (preamble_code l image) refl e

-- ---- watchpoints

-- a comparison's code
pub operator_again : (n : ℕ) → 1 ≤ n → n ≤ 6 → operator_code (operator_of_code n) ≡ n
operator_again zero low high = absurd (omega (arith, low))
operator_again (suc zero) low high = refl
operator_again (suc (suc zero)) low high = refl
operator_again (suc (suc (suc zero))) low high = refl
operator_again (suc (suc (suc (suc zero)))) low high = refl
operator_again (suc (suc (suc (suc (suc zero))))) low high = refl
operator_again (suc (suc (suc (suc (suc (suc zero)))))) low high = refl
operator_again (suc (suc (suc (suc (suc (suc (suc n))))))) low high = absurd (omega (arith, high))

-- less than is taken away
less_left : (m n : ℕ) → m < n → sub_ℕ m n ≡ negsuc (n - 1 - m)
less_left m n less =
    let is : nat_le (suc m) n ≡ true = grind (arith, less) in
    let same : n - suc m ≡ n - 1 - m = omega arith in
    rw is (ap negsuc same)

-- the bits of the number that 32 bits are
pub bits_again : (k : FieldType) (n : ℕ) → n < 2 ^ 32 → bits_32 (twos_complement_32 k n) ≡ n
bits_again k n small = go (is_signed k && nat_le 2147483648 n)
  where
    go : (b : Bool) → bits_32 (cond b (pos n -ℤ pos 4294967296) (pos n)) ≡ n
    go true =
        let value : pos n -ℤ pos 4294967296 ≡ negsuc (4294967295 - n) = less_left n 4294967296 small in
        let same : 4294967295 - (4294967295 - n) ≡ n = omega (arith, small) in
        ap bits_32 value ∙ same
    go false = refl

-- ---- numbers of bytes

pub below_2_16 : (bytes : List ℕ) (n : ℕ) → AllByRecursion (λ b. b < 256) bytes → u16_at bytes n < 2 ^ 16
below_2_16 bytes n all =
    let back : (i : ℕ) → get_or (drop n bytes) i 0 < 256 = each_byte (drop n bytes) (bytes_behind n bytes all) in
    omega (arith, back 0, back 1)

pub below_2_32 : (bytes : List ℕ) (n : ℕ) → AllByRecursion (λ b. b < 256) bytes → u32_at bytes n < 2 ^ 32
below_2_32 bytes n all =
    let back : (i : ℕ) → get_or (drop n bytes) i 0 < 256 = each_byte (drop n bytes) (bytes_behind n bytes all) in
    omega (arith, back 0, back 1, back 2, back 3)

two : (bytes : List ℕ) → AllByRecursion (λ b. b < 256) bytes → 2 ≤ length bytes → bytes ≡ u16 (u16_at bytes 0) ++ drop 2 bytes
two [] all enough = absurd (omega (arith, enough))
two (a ∷ []) all enough = absurd (omega (arith, enough))
two (a ∷ b ∷ bytes) all enough =
    let few : List ℕ = a ∷ b ∷ [] in
    let are : AllByRecursion (λ b. b < 256) few = (all.0, (all.1.0, tt)) in
    let again : u16 (u16_at (a ∷ b ∷ bytes) 0) ≡ few = be_bytes_2 few (u16_at (a ∷ b ∷ bytes) 0) refl (each_byte few are) refl in
    sym (ap (λ (front : List ℕ). front ++ bytes) again)

-- two bytes at a place
pub two_at : (bytes : List ℕ) (n m : ℕ) → AllByRecursion (λ b. b < 256) bytes → n + 2 ≡ m → m ≤ length bytes →
    drop n bytes ≡ u16 (u16_at bytes n) ++ drop m bytes
two_at bytes n m all next enough =
    let here : drop n bytes ≡ u16 (u16_at bytes n) ++ drop 2 (drop n bytes) =
    two (drop n bytes) (bytes_behind n bytes all) (omega (arith, length-drop n bytes, enough, next)) in
    here ∙ ap (λ (rest : List ℕ). u16 (u16_at bytes n) ++ rest) (drop-drop 2 n bytes ∙ ap (λ k. drop k bytes) next)
