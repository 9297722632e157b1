-- What an evaluation meets in words that pass the tests of equations.
use Rattle.std.proofs.Common.{◌≡◌, ℕ, zero, suc, ◌<◌, ◌≤◌, ◌⊎◌, inl, inr, Bool, false, nat_lt, List, [], ◌∷◌, ◌++◌, length, take, slice_index, None, lit≤, append-nil, append_assoc, arith}
use Rattle.std.specs.List.{AllByRecursion, list_any}
use Rattle.lc_model.specs.Codes.{table_entries}
use Rattle.lc_model.specs.Condition.{Operator, And, Or, Xor}
use Rattle.lc_model.specs.Tables.Equation.{operator_word, equal_word, waiting, IsEquation}
use Rattle.lc_model.specs.Tables.Image.{first_code, equation_tests, with_words_before, most_waiting}
use Rattle.lc_model.proofs.Tables.SoundWords.{IsWord, number, negated, joined, none_stands, classified, each_front, unknown, missing, too_few, sound_words_spell}
use Rattle.lc_model.proofs.Facts.{tested_not_less, or_second, or_first}
use Rattle.table_validator.specs.Sound.{IsSoundEquation}

-- what no word shows, this one does not
of_each : (p : ℕ → Bool) (ws : List ℕ) (n : ℕ) → list_any p ws ≡ false → n < length ws → p (slice_index ws n) ≡ false
of_each p [] n none inside = absurd (omega (arith, inside))
of_each p (w ∷ ws) zero none inside = or_first (p w) _ none
of_each p (w ∷ ws) (suc n) none inside = of_each p ws n (or_second (p w) _ none) (omega (arith, inside))

-- nor this step
of_step : (p : List ℕ × ℕ → Bool) (x : ℕ) (ws before : List ℕ) (n : ℕ) → list_any p (with_words_before before (ws ++ x ∷ [])) ≡ false → n < length ws →
    p (before ++ take n ws, slice_index ws n) ≡ false
of_step p x [] before n none inside = absurd (omega (arith, inside))
of_step p x (w ∷ ws) before zero none inside = rw (append-nil before) (or_first (p (before, w)) _ none)
of_step p x (w ∷ ws) before (suc n) none inside =
    let others : p (before ++ w ∷ [] ++ take n ws, slice_index ws n) ≡ false =
    of_step p x ws (before ++ w ∷ []) n (or_second (p (before, w)) _ none) (omega (arith, inside)) in
    rw (append_assoc before (w ∷ []) (take n ws)) at others

-- nor the last one
of_last : (p : List ℕ × ℕ → Bool) (x : ℕ) (ws before : List ℕ) → list_any p (with_words_before before (ws ++ x ∷ [])) ≡ false → p (before ++ ws, x) ≡ false
of_last p x [] before none = rw (append-nil before) (or_first (p (before, x)) _ none)
of_last p x (w ∷ ws) before none =
    rw (append_assoc before (w ∷ []) ws) at (of_last p x ws (before ++ w ∷ []) (or_second (p (before, w)) _ none))

-- a word of an equation
abbrev Known : ℕ → ℕ → Type 0
Known count w = (w < count) ⊎ ((0xFF01 ≤ w) × (w ≤ 0xFF04))

operator_known : (count : ℕ) (o : Operator) → Known count (operator_word o)
operator_known count And = inr (lit≤ tt, lit≤ tt)
operator_known count Or = inr (lit≤ tt, lit≤ tt)
operator_known count Xor = inr (lit≤ tt, lit≤ tt)

known_word : (count w : ℕ) → IsWord count w → Known count w
known_word count w (number below) = inl below
known_word count w negated = inr (lit≤ tt, lit≤ tt)
known_word count w (joined o) = operator_known count o

pub sound_equation : (count : ℕ) (ws : List ℕ) → count ≤ table_entries → first_code (equation_tests count ws) ≡ None → IsSoundEquation count ws
sound_equation count ws few passes =
    let tests : AllByRecursion (λ t. t.0 ≡ false) (equation_tests count ws) = none_stands (equation_tests count ws) passes in
    let spelled : (k : ℕ) × (k ≤ most_waiting) × IsEquation count ws k = (sound_words_spell count ws few).0 passes in
    let one : 1 ≤ waiting ws = tested_not_less _ _ (of_last too_few equal_word ws [] tests.1.1.0) in
    let at_most_one : waiting ws ≤ 1 = tested_not_less 1 (waiting ws) tests.1.1.1.1.0 in
    record {
      passes = passes;
      need = spelled.0;
      few = spelled.1;
      spells = spelled.2;
      met = λ n inside. record {
        known = known_word count (slice_index ws n)
            (classified count (slice_index ws n) (of_each unknown ws n tests.0 inside) (of_each (missing count) ws n tests.1.0 inside));
        enough = tested_not_less _ _ (of_step too_few equal_word ws [] n tests.1.1.0 inside);
        few = tested_not_less _ _ (each_front (λ us. nat_lt most_waiting (waiting us)) equal_word ws [] n tests.1.1.1.0 (omega (arith, inside)));
      };
      one_left = same (waiting ws) at_most_one one;
    }
  where
    same : (n : ℕ) → n ≤ 1 → 1 ≤ n → n ≡ 1
    same n a b = omega (arith, a, b)
