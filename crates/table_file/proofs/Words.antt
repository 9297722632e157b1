-- The words of an equation, and those before its EQUAL.
use Rattle.std.proofs.Common.{◌≡◌, refl, sym, ◌∙◌, ap, ℕ, zero, suc, ◌+◌, ◌-◌, ◌*◌, ◌/◌, ◌<◌, ◌≤◌, true, false, ◌==◌, List, [], ◌∷◌, length, slice_index, arith, length-drop}
use Rattle.std.specs.List.{position_or_len}
use Rattle.std.specs.Int.{w16, from_be_bytes}
use Rattle.std.proofs.lemmas.List.{length-take, drop-drop}
use Rattle.std.proofs.lemmas.List.Sums.{position_or_len_is}
use Rattle.lc_model.specs.Bytes.{u16_at}
use Rattle.lc_model.specs.Tables.Entry.{words_field}
use Rattle.lc_model.specs.Tables.Equation.{equal_word}
use Rattle.lc_model.specs.Tables.Image.{words_from, all_words, words_before_equal}

-- two bytes each, and perhaps one more
record IsHalved (m n : ℕ) : Type 0 where
  low : 2 * n ≤ m
  high : m ≤ 2 * n + 1

halved : (bytes : List ℕ) → IsHalved (length bytes) (length (words_from bytes))
halved [] = record { low = omega arith; high = omega arith }
halved (a ∷ []) = record { low = omega arith; high = omega arith }
halved (a ∷ b ∷ bytes) = let rest : IsHalved (length bytes) (length (words_from bytes)) = halved bytes in
    record { low = omega (arith, rest.low); high = omega (arith, rest.high) }

word_from : (bytes : List ℕ) (i : ℕ) → i < length (words_from bytes) → slice_index (words_from bytes) i ≡ u16_at bytes (2 * i)
word_from [] i within = absurd (omega (arith, within))
word_from (a ∷ []) i within = absurd (omega (arith, within))
word_from (a ∷ b ∷ bytes) zero within = refl
word_from (a ∷ b ∷ bytes) (suc i) within =
    let place : 2 * suc i ≡ suc (suc (2 * i)) = omega arith in
    word_from bytes i (omega (arith, within)) ∙ ap (λ k. u16_at (a ∷ b ∷ bytes) k) (sym place)

pub word_count_is : (entry : List ℕ) → (length entry - 46) / 2 ≡ length (all_words entry)
word_count_is entry =
    let h : IsHalved (length (words_field entry)) (length (all_words entry)) = halved (words_field entry) in
    omega (arith, h.low, h.high, length-drop 46 entry)

pub word_within : (entry : List ℕ) (i : ℕ) → i < length (all_words entry) → 46 + 2 * i + 2 ≤ length entry
word_within entry i within =
    let h : IsHalved (length (words_field entry)) (length (all_words entry)) = halved (words_field entry) in
    omega (arith, h.low, within, length-drop 46 entry)

pub word_is : (entry : List ℕ) (i : ℕ) → i < length (all_words entry) → u16_at entry (46 + 2 * i) ≡ slice_index (all_words entry) i
word_is entry i within =
    ap (from_be_bytes w16) (sym (drop-drop (2 * i) 46 entry)) ∙ sym (word_from (words_field entry) i within)

-- none of the words before a place is EQUAL
abbrev pub HasNoEqual : List ℕ → ℕ → Type 0
HasNoEqual ws n = (k : ℕ) → k < n → (slice_index ws k == equal_word) ≡ false

before_place : (ws : List ℕ) (n : ℕ) → n ≤ length ws → HasNoEqual ws n → (n < length ws → (slice_index ws n == equal_word) ≡ true) → n ≡ length (words_before_equal ws)
before_place ws n within none here =
    let first : position_or_len (λ w. w == equal_word) ws ≡ n = position_or_len_is (λ w. w == equal_word) ws n 0 within none here in
    rw first (omega (arith, length-take n ws, within))

pub equal_found : (ws : List ℕ) (n : ℕ) → n < length ws → HasNoEqual ws n → slice_index ws n ≡ equal_word → n ≡ length (words_before_equal ws)
equal_found ws n within none same = before_place ws n (omega (arith, within)) none (λ h. rw same refl)

pub no_equal_found : (ws : List ℕ) (n : ℕ) → n ≡ length ws → HasNoEqual ws n → n ≡ length (words_before_equal ws)
no_equal_found ws n all none = before_place ws n (omega (arith, all)) none (λ h. absurd (omega (arith, all, h)))
