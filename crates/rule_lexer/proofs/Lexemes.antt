-- What kind a lexeme is of goes by its first bytes.
use Rattle.std.proofs.Common.{◌≡◌, refl, sym, ◌∙◌, ap, ℕ, Bool, true, false, ◌||◌, ◌==◌, List, [], ◌∷◌, bytes_eq, arith}
use Rattle.std.specs.List.{list_any}
use Rattle.std.specs.Char.{is_ascii_digit}
use Rattle.lc_model.specs.Text.Token.{is_letter, is_word, is_numeral, is_string, is_sign, is_lexeme, signs}
use Rattle.rule_lexer.specs.Front.{begins, begins_numeral, is_quote}
use Rattle.rule_lexer.proofs.Booleans.{only_first, only_second, only_third}
use Rattle.lc_model.proofs.Facts.{and_first_false}
use Rattle.lc_model.proofs.Texts.OneClass.{none_of}

-- ---- each kind begins in its way

pub no_word : (text : List ℕ) → begins is_letter text ≡ false → is_word text ≡ false
no_word [] none = refl
no_word (c ∷ cs) none = and_first_false (is_letter c) _ none

pub no_numeral : (text : List ℕ) → begins_numeral text ≡ false → is_numeral text ≡ false
no_numeral [] none = refl
no_numeral (c ∷ []) none = go (c == 45) refl
  where
    go : (b : Bool) → (c == 45) ≡ b → is_numeral (c ∷ []) ≡ false
    go true e = rw e refl
    go false e = let digit : is_ascii_digit c ≡ false = rw e at none in rw (e, digit) refl
no_numeral (c ∷ d ∷ cs) none = go (c == 45) refl
  where
    go : (b : Bool) → (c == 45) ≡ b → is_numeral (c ∷ d ∷ cs) ≡ false
    go true e = let digit : is_ascii_digit d ≡ false = rw e at none in rw (e, digit) refl
    go false e = let digit : is_ascii_digit c ≡ false = rw e at none in rw (e, digit) refl

pub no_string : (text : List ℕ) → begins is_quote text ≡ false → is_string text ≡ false
no_string [] none = refl
no_string (c ∷ cs) none = and_first_false _ _ (and_first_false (is_quote c) _ none)

-- ---- one kind alone

letter_is_no_digit : (c : ℕ) → is_letter c ≡ true → is_ascii_digit c ≡ false
letter_is_no_digit c e = grind (arith, e)

letter_is_no_quote : (c : ℕ) → is_letter c ≡ true → is_quote c ≡ false
letter_is_no_quote c e = grind (arith, e)

letter_is_no_minus : (c : ℕ) → is_letter c ≡ true → (c == 45) ≡ false
letter_is_no_minus c e = grind (arith, e)

pub letter_begins_no_numeral : (text : List ℕ) → begins is_letter text ≡ true → begins_numeral text ≡ false
letter_begins_no_numeral [] e = refl
letter_begins_no_numeral (c ∷ cs) e =
    let digit : is_ascii_digit c ≡ false = letter_is_no_digit c e in
    let minus : (c == 45) ≡ false = letter_is_no_minus c e in
    rw (minus, digit) refl

pub letter_begins_no_string : (text : List ℕ) → begins is_letter text ≡ true → begins is_quote text ≡ false
letter_begins_no_string [] e = refl
letter_begins_no_string (c ∷ cs) e = letter_is_no_quote c e

-- where a letter stands in front, only words are lexemes
pub word_alone : (text : List ℕ) → begins is_letter text ≡ true → is_lexeme text ≡ is_word text
word_alone text e = only_first (is_word text) (is_numeral text) (is_string text) (is_sign text)
    (no_numeral text (letter_begins_no_numeral text e)) (no_string text (letter_begins_no_string text e))
    (none_of (begins is_letter) signs refl text e)

pub numeral_begins_no_word : (text : List ℕ) → begins_numeral text ≡ true → begins is_letter text ≡ false
numeral_begins_no_word [] e = refl
numeral_begins_no_word (c ∷ cs) e = go (c == 45) refl
  where
    go : (b : Bool) → (c == 45) ≡ b → is_letter c ≡ false
    go true m = grind (arith, m)
    go false m = let digit : is_ascii_digit c ≡ true = rw m at e in grind (arith, digit)

pub numeral_begins_no_string : (text : List ℕ) → begins_numeral text ≡ true → begins is_quote text ≡ false
numeral_begins_no_string [] e = refl
numeral_begins_no_string (c ∷ cs) e = go (c == 45) refl
  where
    go : (b : Bool) → (c == 45) ≡ b → is_quote c ≡ false
    go true m = grind (arith, m)
    go false m = let digit : is_ascii_digit c ≡ true = rw m at e in grind (arith, digit)

-- where a number begins, only numerals are lexemes
pub numeral_alone : (text : List ℕ) → begins_numeral text ≡ true → is_lexeme text ≡ is_numeral text
numeral_alone text e = only_second (is_word text) (is_numeral text) (is_string text) (is_sign text)
    (no_word text (numeral_begins_no_word text e)) (no_string text (numeral_begins_no_string text e))
    (none_of begins_numeral signs refl text e)

pub quote_begins_no_word : (text : List ℕ) → begins is_quote text ≡ true → begins is_letter text ≡ false
quote_begins_no_word [] e = refl
quote_begins_no_word (c ∷ cs) e = grind (arith, e)

pub quote_begins_no_numeral : (text : List ℕ) → begins is_quote text ≡ true → begins_numeral text ≡ false
quote_begins_no_numeral [] e = refl
quote_begins_no_numeral (c ∷ cs) e =
    let digit : is_ascii_digit c ≡ false = grind (arith, e) in
    let minus : (c == 45) ≡ false = grind (arith, e) in
    rw (minus, digit) refl

-- where a quote stands in front, only strings are lexemes
pub string_alone : (text : List ℕ) → begins is_quote text ≡ true → is_lexeme text ≡ is_string text
string_alone text e = only_third (is_word text) (is_numeral text) (is_string text) (is_sign text)
    (no_word text (quote_begins_no_word text e)) (no_numeral text (quote_begins_no_numeral text e))
    (none_of (begins is_quote) signs refl text e)
