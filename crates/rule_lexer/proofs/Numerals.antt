-- The number in front of a text.
use Rattle.std.proofs.Common.{◌≡◌, refl, sym, ◌∙◌, ap, subst, ℕ, ◌+◌, ◌-◌, Bool, true, false, cond, ◌==◌, List, [], ◌∷◌, ◌++◌, length, take, drop, length-append, arith}
use Rattle.std.specs.List.{list_all, prefix_len}
use Rattle.std.specs.Char.{is_ascii_digit}
use Rattle.std.proofs.lemmas.List.Sums.{prefix_len-le-length}
use Rattle.lc_model.specs.Text.Token.{IsLongest, is_numeral, is_word_byte, magnitude_text}
use Rattle.lc_model.proofs.Facts.{tested_equal}
use Rattle.rule_lexer.specs.Front.{IsFront, begins, begins_numeral}
use Rattle.rule_lexer.proofs.Runs.{take_more, drop_more, run_passes, run_stops, take_run, drop_run, nothing_more}
use Rattle.rule_lexer.proofs.Lexemes.{numeral_alone}

digit_is_word_byte : (c : ℕ) → is_ascii_digit c ≡ true → is_word_byte c ≡ true
digit_is_word_byte c e = grind (arith, e)

digit_is_no_minus : (c : ℕ) → is_ascii_digit c ≡ true → (c == 45) ≡ false
digit_is_no_minus c e = grind (arith, e)

-- a digit in front is no sign
by_digit : (c : ℕ) (cs : List ℕ) → is_ascii_digit c ≡ true → is_numeral (c ∷ cs) ≡ list_all is_word_byte cs
by_digit c cs digit = let minus : (c == 45) ≡ false = digit_is_no_minus c digit in rw (minus, digit) refl

by_minus : (c : ℕ) (cs : List ℕ) → is_ascii_digit c ≡ true → is_numeral (45 ∷ c ∷ cs) ≡ list_all is_word_byte cs
by_minus c cs digit = rw digit refl

begins_by_digit : (c : ℕ) (cs : List ℕ) → is_ascii_digit c ≡ true → begins_numeral (c ∷ cs) ≡ true
begins_by_digit c cs digit = let minus : (c == 45) ≡ false = digit_is_no_minus c digit in rw (minus, digit) refl

longest_by_digit : (c : ℕ) (front rest : List ℕ) → is_ascii_digit c ≡ true → begins is_word_byte rest ≡ false → IsLongest (c ∷ front) rest
longest_by_digit c front rest digit stops more others e lexeme =
    nothing_more is_word_byte front more others rest stops e
    (sym (numeral_alone (c ∷ front ++ more) (begins_by_digit c (front ++ more) digit) ∙ by_digit c (front ++ more) digit) ∙ lexeme)

longest_by_minus : (c : ℕ) (front rest : List ℕ) → is_ascii_digit c ≡ true → begins is_word_byte rest ≡ false → IsLongest (45 ∷ c ∷ front) rest
longest_by_minus c front rest digit stops more others e lexeme =
    nothing_more is_word_byte front more others rest stops e
    (sym (numeral_alone (45 ∷ c ∷ front ++ more) digit ∙ by_minus c (front ++ more) digit) ∙ lexeme)

-- digits, with the letters that follow
pub digits_front : (text : List ℕ) → begins is_ascii_digit text ≡ true → IsFront is_numeral text (prefix_len is_word_byte text)
digits_front [] digit = absurd (cc digit)
digits_front (c ∷ cs) digit = record {
  within = prefix_len-le-length is_word_byte (c ∷ cs);
  passes = ap is_numeral front ∙ by_digit c (take (prefix_len is_word_byte cs) cs) digit ∙ run_passes is_word_byte cs;
  longest = subst (λ w. IsLongest w (drop (prefix_len is_word_byte (c ∷ cs)) (c ∷ cs))) (sym front)
      (subst (IsLongest (c ∷ take (prefix_len is_word_byte cs) cs)) (sym back)
      (longest_by_digit c (take (prefix_len is_word_byte cs) cs) (drop (prefix_len is_word_byte cs) cs) digit (run_stops is_word_byte cs)));
}
  where
    first : is_word_byte c ≡ true
    first = digit_is_word_byte c digit

    front : take (prefix_len is_word_byte (c ∷ cs)) (c ∷ cs) ≡ c ∷ take (prefix_len is_word_byte cs) cs
    front = take_run is_word_byte c cs first

    back : drop (prefix_len is_word_byte (c ∷ cs)) (c ∷ cs) ≡ drop (prefix_len is_word_byte cs) cs
    back = drop_run is_word_byte c cs first

-- a minus, and such digits
pub minus_front : (text : List ℕ) → begins is_ascii_digit text ≡ true → IsFront is_numeral (45 ∷ text) (1 + prefix_len is_word_byte text)
minus_front [] digit = absurd (cc digit)
minus_front (c ∷ cs) digit = record {
  within = omega (arith, prefix_len-le-length is_word_byte (c ∷ cs), length-append (45 ∷ []) (c ∷ cs));
  passes = ap is_numeral front ∙ by_minus c (take (prefix_len is_word_byte cs) cs) digit ∙ run_passes is_word_byte cs;
  longest = subst (λ w. IsLongest w (drop (1 + prefix_len is_word_byte (c ∷ cs)) (45 ∷ c ∷ cs))) (sym front)
      (subst (IsLongest (45 ∷ c ∷ take (prefix_len is_word_byte cs) cs)) (sym back)
      (longest_by_minus c (take (prefix_len is_word_byte cs) cs) (drop (prefix_len is_word_byte cs) cs) digit (run_stops is_word_byte cs)));
}
  where
    first : is_word_byte c ≡ true
    first = digit_is_word_byte c digit

    front : take (1 + prefix_len is_word_byte (c ∷ cs)) (45 ∷ c ∷ cs) ≡ 45 ∷ c ∷ take (prefix_len is_word_byte cs) cs
    front = take_more (prefix_len is_word_byte (c ∷ cs)) 45 (c ∷ cs) ∙ ap (λ (w : List ℕ). 45 ∷ w) (take_run is_word_byte c cs first)

    back : drop (1 + prefix_len is_word_byte (c ∷ cs)) (45 ∷ c ∷ cs) ≡ drop (prefix_len is_word_byte cs) cs
    back = drop_more (prefix_len is_word_byte (c ∷ cs)) 45 (c ∷ cs) ∙ drop_run is_word_byte c cs first

-- the sign and the digits, with the letters that follow
pub numeral_front : (text : List ℕ) → begins_numeral text ≡ true →
    IsFront is_numeral text (length text - length (magnitude_text text) + prefix_len is_word_byte (magnitude_text text))
numeral_front [] begun = absurd (cc begun)
numeral_front (c ∷ cs) begun = go (c == 45) refl begun
  where
    size : length (c ∷ cs) ≡ 1 + length cs
    size = length-append (c ∷ []) cs

    go : (b : Bool) → (c == 45) ≡ b → begins is_ascii_digit (cond b cs (c ∷ cs)) ≡ true →
        IsFront is_numeral (c ∷ cs) (length (c ∷ cs) - length (cond (c == 45) cs (c ∷ cs)) + prefix_len is_word_byte (cond (c == 45) cs (c ∷ cs)))
    go true e digit =
        let one : length (c ∷ cs) - length cs ≡ 1 = omega (arith, size) in
        rw e (rw one (subst (λ x. IsFront is_numeral (x ∷ cs) (1 + prefix_len is_word_byte cs)) (sym (tested_equal c 45 e)) (minus_front cs digit)))
    go false e digit =
        let none : length (c ∷ cs) - length (c ∷ cs) + prefix_len is_word_byte (c ∷ cs) ≡ prefix_len is_word_byte (c ∷ cs) = omega arith in
        rw e (subst (IsFront is_numeral (c ∷ cs)) (sym none) (digits_front (c ∷ cs) digit))
