-- The text and the words of a sound actionpoint entry are spelled by what is read of them.
use Rattle.std.proofs.Common.{◌≡◌, ◌≢◌, refl, sym, ◌∙◌, ap, subst, ℕ, zero, suc, ◌+◌, ◌-◌, ◌*◌, ◌<◌, ◌≤◌, ◌^◌, Bool, true, false, not, cond, ◌&&◌, nat_le, ◌==◌, List, [], ◌∷◌, ◌++◌, length, flat_map, take, drop, take_while, replicate, arith}
use Rattle.std.specs.List.{AllByRecursion, list_any, list_all, position_or_len, before_first, after_first}
use Rattle.std.proofs.lemmas.List.Sums.{take_while-cons}
use Rattle.lc_model.specs.Bytes.{u16, u16_at}
use Rattle.lc_model.specs.Name.{name_in}
use Rattle.lc_model.specs.Text.Token.{is_text_byte, quote}
use Rattle.lc_model.specs.Tables.Equation.{equal_word}
use Rattle.lc_model.specs.Tables.Image.{words_from, words_before_equal, words_after_equal}
use Rattle.lc_model.proofs.Tables.SoundImages.{below_2_16, two_at}
use Rattle.lc_model.proofs.Facts.{tested_equal, test_equal, tested_unequal, tested_at_most, and_first, and_second, or_other, unequal_turned}

-- ---- tests

above_zero : (n : ℕ) → 0 < n → (n == 0) ≡ false
above_zero n h = grind (arith, h)

-- ---- what stands before and after the first that passes

module _ {X : Type 0} (p : X → Bool) where
  pub before_here : (x : X) (xs : List X) → p x ≡ true → before_first p (x ∷ xs) ≡ []
  before_here x xs e = rw e refl

  pub before_later : (x : X) (xs : List X) → p x ≡ false → before_first p (x ∷ xs) ≡ x ∷ before_first p xs
  before_later x xs e =
      let one : 1 + position_or_len p xs ≡ suc (position_or_len p xs) = omega arith in
      ap (λ b. take (cond (not b) (1 + position_or_len p xs) 0) (x ∷ xs)) e ∙ ap (λ n. take n (x ∷ xs)) one

  pub after_here : (x : X) (xs : List X) → p x ≡ true → after_first p (x ∷ xs) ≡ xs
  after_here x xs e = rw e refl

  pub after_later : (x : X) (xs : List X) → p x ≡ false → after_first p (x ∷ xs) ≡ after_first p xs
  after_later x xs e =
      let one : 1 + position_or_len p xs + 1 ≡ suc (position_or_len p xs + 1) = omega arith in
      ap (λ b. drop (cond (not b) (1 + position_or_len p xs) 0 + 1) (x ∷ xs)) e ∙ ap (λ n. drop n (x ∷ xs)) one

-- zeros are as many zeros
zeros : (bytes : List ℕ) → list_all (◌==◌ 0) bytes ≡ true → replicate (length bytes) 0 ≡ bytes
zeros [] e = refl
zeros (b ∷ bytes) e =
    let one : length (b ∷ bytes) ≡ suc (length bytes) = omega arith in
    let first : 0 ≡ b = tested_equal 0 b (and_first (0 == b) (list_all (◌==◌ 0) bytes) e) in
    ap (λ n. replicate n 0) one ∙ (λ i. first i ∷ zeros bytes (and_second (0 == b) (list_all (◌==◌ 0) bytes) e) i)

-- ---- texts

-- a byte of a text is neither zero nor above a byte
text_byte : (b : ℕ) → is_text_byte b ≡ true → (0 < b) × (b < 2 ^ 8)
text_byte b e =
    let range : (nat_le 0x20 b && nat_le b 0x7E) ≡ true = and_first (nat_le 0x20 b && nat_le b 0x7E) (not (b == quote)) e in
    let low : 0x20 ≤ b = tested_at_most 0x20 b (and_first (nat_le 0x20 b) (nat_le b 0x7E) range) in
    let high : b ≤ 0x7E = tested_at_most b 0x7E (and_second (nat_le 0x20 b) (nat_le b 0x7E) range) in
    (omega (arith, low), omega (arith, high))

-- a field of text, with zeros behind the text
pub record IsTextField (field : List ℕ) : Type 0 where
  pub again : name_in field ++ replicate (length field - length (name_in field)) 0 ≡ field
  pub each : AllByRecursion (λ b. (0 < b) × (b < 2 ^ 8)) (name_in field)
  pub long : length (name_in field) ≡ length (take_while is_text_byte field)

-- behind the text bytes stand zeros alone
abbrev HasZerosBehind : List ℕ → Type 0
HasZerosBehind field = list_all (◌==◌ 0) (drop (length (take_while is_text_byte field)) field) ≡ true

-- such a field is spelled by the text that is read of it
pub text_again : (field : List ℕ) → HasZerosBehind field → IsTextField field
text_again [] behind = record { again = refl; each = tt; long = refl }
text_again (b ∷ bytes) behind = by_test (is_text_byte b) refl (text_again bytes)
  where
    by_test : (t : Bool) → is_text_byte b ≡ t → (HasZerosBehind bytes → IsTextField bytes) → IsTextField (b ∷ bytes)
    by_test true is others =
        let front : take_while is_text_byte (b ∷ bytes) ≡ b ∷ take_while is_text_byte bytes =
        take_while-cons is_text_byte b bytes ∙ ap (λ t. cond t (b ∷ take_while is_text_byte bytes) []) is in
        let count : length (take_while is_text_byte (b ∷ bytes)) ≡ suc (length (take_while is_text_byte bytes)) =
        ap (λ (text : List ℕ). length text) front ∙ omega arith in
        let rest : IsTextField bytes = others (sym (ap (λ n. list_all (◌==◌ 0) (drop n (b ∷ bytes))) count) ∙ behind) in
        let byte : (0 < b) × (b < 2 ^ 8) = text_byte b is in
        let name : name_in (b ∷ bytes) ≡ b ∷ name_in bytes = before_later (λ c. c == 0) b bytes (above_zero b byte.0) in
        let fewer : length (b ∷ bytes) - length (b ∷ name_in bytes) ≡ length bytes - length (name_in bytes) = omega arith in
        record {
          again = ap (λ n. n ++ replicate (length (b ∷ bytes) - length n) 0) name ∙ ap (λ n. b ∷ name_in bytes ++ replicate n 0) fewer ∙ ap (λ r. b ∷ r) rest.again;
          each = subst (AllByRecursion (λ c. (0 < c) × (c < 2 ^ 8))) (sym name) (byte, rest.each);
          long = ap (λ (n : List ℕ). length n) name ∙ omega (arith, rest.long, count);
        }
    by_test false is others =
        let front : take_while is_text_byte (b ∷ bytes) ≡ [] =
        take_while-cons is_text_byte b bytes ∙ ap (λ t. cond t (b ∷ take_while is_text_byte bytes) []) is in
        let all : list_all (◌==◌ 0) (b ∷ bytes) ≡ true = sym (ap (λ (text : List ℕ). list_all (◌==◌ 0) (drop (length text) (b ∷ bytes))) front) ∙ behind in
        let first : 0 ≡ b = tested_equal 0 b (and_first (0 == b) (list_all (◌==◌ 0) bytes) all) in
        let name : name_in (b ∷ bytes) ≡ [] = before_here (λ c. c == 0) b bytes (test_equal b 0 (sym first)) in
        let whole : length (b ∷ bytes) - 0 ≡ length (b ∷ bytes) = omega arith in
        record {
          again = ap (λ n. n ++ replicate (length (b ∷ bytes) - length n) 0) name ∙ ap (λ n. replicate n 0) whole ∙ zeros (b ∷ bytes) all;
          each = subst (AllByRecursion (λ c. (0 < c) × (c < 2 ^ 8))) (sym name) tt;
          long = ap (λ (n : List ℕ). length n) name ∙ sym (ap (λ (text : List ℕ). length text) front);
        }

-- ---- words

-- bytes that hold so many words
pub record HoldsWords (count : ℕ) (bytes : List ℕ) : Type 0 where
  pub again : flat_map u16 (words_from bytes) ≡ bytes
  pub each : AllByRecursion (λ w. w < 2 ^ 16) (words_from bytes)
  pub long : length (words_from bytes) ≡ count

-- two bytes for each word hold so many
pub words_again : (count : ℕ) (bytes : List ℕ) → AllByRecursion (λ b. b < 256) bytes → length bytes ≡ 2 * count → HoldsWords count bytes
words_again zero [] all long = record { again = refl; each = tt; long = refl }
words_again (suc n) [] all long = absurd (omega (arith, long))
words_again n (a ∷ []) all long = absurd (omega (arith, long))
words_again zero (a ∷ b ∷ bytes) all long = absurd (omega (arith, long))
words_again (suc n) (a ∷ b ∷ bytes) all long =
    let here : a ∷ b ∷ [] ≡ u16 (u16_at (a ∷ b ∷ []) 0) ++ [] = two_at (a ∷ b ∷ []) 0 2 (all.0, (all.1.0, tt)) refl (omega arith) in
    let rest : HoldsWords n bytes = words_again n bytes all.1.1 (omega (arith, long)) in
    record {
      again = λ i. sym here i ++ rest.again i;
      each = (below_2_16 (a ∷ b ∷ []) 0 (all.0, (all.1.0, tt)), rest.each);
      long = omega (arith, rest.long);
    }

-- the words of an equation, EQUAL, and zeros
pub record IsWordField (ws : List ℕ) : Type 0 where
  pub again : words_before_equal ws ++ equal_word ∷ [] ++ replicate (length ws - length (words_before_equal ws ++ equal_word ∷ [])) 0 ≡ ws
  pub each : AllByRecursion (λ w. w < 2 ^ 16) (words_before_equal ws)
  pub once : AllByRecursion (λ w. w ≢ equal_word) (words_before_equal ws)
  pub short : length (words_before_equal ws) < length ws

-- words with an EQUAL, and zeros behind the first one, are spelled by those before it
pub equation_again : (ws : List ℕ) → AllByRecursion (λ w. w < 2 ^ 16) ws → list_any (◌==◌ equal_word) ws ≡ true →
    list_all (◌==◌ 0) (words_after_equal ws) ≡ true → IsWordField ws
equation_again [] all ends behind = absurd (cc ends)
equation_again (w ∷ ws) all ends behind = by_test (w == equal_word) refl (equation_again ws all.1)
  where
    by_test : (t : Bool) → (w == equal_word) ≡ t →
        (list_any (◌==◌ equal_word) ws ≡ true → list_all (◌==◌ 0) (words_after_equal ws) ≡ true → IsWordField ws) → IsWordField (w ∷ ws)
    by_test true is others =
        let before : words_before_equal (w ∷ ws) ≡ [] = before_here (λ v. v == equal_word) w ws is in
        let after : words_after_equal (w ∷ ws) ≡ ws = after_here (λ v. v == equal_word) w ws is in
        let few : length (w ∷ ws) - length (equal_word ∷ []) ≡ length ws = omega arith in
        let all_zeros : replicate (length ws) 0 ≡ ws = zeros ws (ap (list_all (◌==◌ 0)) (sym after) ∙ behind) in
        let first : w ≡ equal_word = tested_equal w equal_word is in
        record {
          again = ap (λ (front : List ℕ). front ++ equal_word ∷ [] ++ replicate (length (w ∷ ws) - length (front ++ equal_word ∷ [])) 0) before
              ∙ ap (λ n. equal_word ∷ replicate n 0) few ∙ (λ i. sym first i ∷ all_zeros i);
          each = subst (AllByRecursion (λ v. v < 2 ^ 16)) (sym before) tt;
          once = subst (AllByRecursion (λ v. v ≢ equal_word)) (sym before) tt;
          short = omega (arith, ap (λ (front : List ℕ). length front) before);
        }
    by_test false is others =
        let before : words_before_equal (w ∷ ws) ≡ w ∷ words_before_equal ws = before_later (λ v. v == equal_word) w ws is in
        let after : words_after_equal (w ∷ ws) ≡ words_after_equal ws = after_later (λ v. v == equal_word) w ws is in
        let rest : IsWordField ws =
        others (or_other (equal_word == w) (list_any (◌==◌ equal_word) ws) ends (unequal_turned w equal_word is)) (ap (list_all (◌==◌ 0)) (sym after) ∙ behind) in
        let front : List ℕ = words_before_equal ws ++ equal_word ∷ [] in
        let fewer : length (w ∷ ws) - length (w ∷ front) ≡ length ws - length front = omega arith in
        record {
          again = ap (λ (f : List ℕ). f ++ equal_word ∷ [] ++ replicate (length (w ∷ ws) - length (f ++ equal_word ∷ [])) 0) before
              ∙ ap (λ n. w ∷ front ++ replicate n 0) fewer ∙ ap (λ r. w ∷ r) rest.again;
          each = subst (AllByRecursion (λ v. v < 2 ^ 16)) (sym before) (all.0, rest.each);
          once = subst (AllByRecursion (λ v. v ≢ equal_word)) (sym before) (tested_unequal w equal_word is, rest.once);
          short = omega (arith, ap (λ (f : List ℕ). length f) before, rest.short);
        }
