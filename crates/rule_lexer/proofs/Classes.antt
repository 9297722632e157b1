-- The kind of a token decides of which classes it is.
use Rattle.std.proofs.Common.{◌≡◌, refl, sym, ◌∙◌, ap, ℕ, Bool, true, false, ◌&&◌, ◌||◌, ◌==◌, nat_lt, List, [], ◌∷◌, length, take, drop, Some, None, is_some, option_map, ℤ, bytes_eq, codes, arith}
use Rattle.std.specs.List.{list_all, list_any}
use Rattle.std.specs.Char.{is_ascii_digit, is_ascii_hexdigit}
use Rattle.std.proofs.lemmas.Slice.Eq.{bytes_eq-Decides}
use Rattle.lc_model.specs.declared.field.FieldType.TheVariants.{U8}
use Rattle.lc_model.specs.declared.field.CmpOp.TheVariants.{Less}
use Rattle.lc_model.specs.declared.mode.ApMode.TheVariants.{Active, PermOff}
use Rattle.lc_model.specs.declared.rule.EventKind.TheVariants.{Debug}
use Rattle.lc_model.specs.Text.Token.{at_most_32_bits, is_letter, is_sign, is_string, is_word, magnitude, magnitude_text, number, signs, with_sign}
use Rattle.lc_model.specs.Text.Class as class
use Rattle.lc_model.specs.Text.Class.{Class, event_kind, field_type, fits, is_name, is_reserved, other_words, state}
use Rattle.lc_model.proofs.Texts.OneClass.{none_of}
use Rattle.lc_model.proofs.Facts.{and_second_false, or_none_of_four, and_first_false, and_first, not_true}
use Rattle.rule_lexer.specs.declared.token.TokenKind.{TokenKind}
use Rattle.rule_lexer.specs.declared.token.TokenKind.TheVariants.{FieldKind, State, Level, Name, Number, Text, Compare}
use Rattle.rule_lexer.specs.Token.{IsKind}
use Rattle.rule_lexer.specs.Fitting.{IsOfGrammar, kind_fits}
use Rattle.rule_lexer.specs.Front.{begins, begins_numeral, is_quote}
use Rattle.rule_lexer.proofs.Lexemes.{letter_begins_no_numeral, letter_begins_no_string, no_string, no_word, numeral_begins_no_string, numeral_begins_no_word, quote_begins_no_numeral, quote_begins_no_word}
use Rattle.rule_lexer.proofs.Tables.{no_value, text_of_value}
use Rattle.rule_lexer.proofs.Spelled.{comparisons, event_kinds, field_types, same_text, spelled_fits, states, text_of}

-- ---- how names, numbers and strings begin

word_begins : (text : List ℕ) → is_word text ≡ true → begins is_letter text ≡ true
word_begins [] is = absurd (cc is)
word_begins (c ∷ cs) is = and_first (is_letter c) _ is

no_magnitude : (text : List ℕ) → begins is_ascii_digit text ≡ false → magnitude text ≡ None
no_magnitude [] none = refl
no_magnitude (c ∷ cs) none =
    let zero : (c == 48) ≡ false = grind (arith, none) in
    let hexadecimal : (bytes_eq (take 2 (c ∷ cs)) (codes "0x") && nat_lt 2 (length (c ∷ cs)) && list_all is_ascii_hexdigit (drop 2 (c ∷ cs))) ≡ false =
    rw zero refl in
    let decimal : (nat_lt 0 (length (c ∷ cs)) && list_all is_ascii_digit (c ∷ cs)) ≡ false =
    and_second_false (nat_lt 0 (length (c ∷ cs))) _ (and_first_false (is_ascii_digit c) _ none) in
    rw (hexadecimal, decimal) refl

no_number : (text : List ℕ) → begins_numeral text ≡ false → is_some (number text) ≡ false
no_number text none = ap (λ o. is_some (option_map (with_sign (bytes_eq (take 1 text) (codes "-"))) (at_most_32_bits o))) (no_magnitude (magnitude_text text) none)

number_begins : (text : List ℕ) (value : ℤ) → number text ≡ Some value → begins_numeral text ≡ true
number_begins text value is = go (begins_numeral text) refl
  where
    go : (b : Bool) → begins_numeral text ≡ b → b ≡ true
    go true e = refl
    go false e = absurd (cc (sym (ap is_some is) ∙ no_number text e))

string_begins : (text : List ℕ) → is_string text ≡ true → begins is_quote text ≡ true
string_begins [] is = absurd (cc is)
string_begins (c ∷ cs) is = and_first (is_quote c) _ (and_first (is_quote c && _) _ is)

-- the words and signs that the first two of these classes list
abbrev items : List (List ℕ)
items = codes "packet" ∷ codes "field" ∷ codes "rule" ∷ []

abbrev operands : List (List ℕ)
operands = codes "not" ∷ codes "(" ∷ []

-- whether what is a name, a number or a string, or none of these, and no word or sign of the grammar, is of the class
abbrev expected : (name number string : Bool) → Class → Bool
expected name number string class.Name = name
expected name number string class.Number = number
expected name number string class.Text = string
expected name number string class.Operand = name
expected name number string other = false

-- ---- kinds with many texts

-- what passes a test that no word and no sign of the grammar passes is none of them
module _ (test : List ℕ → Bool) (no_item : list_any test items ≡ false) (no_word : list_any test other_words ≡ false)
    (no_operand : list_any test operands ≡ false) (no_sign : list_any test signs ≡ false)
    (no_type : list_any (λ row. test row.0) field_types ≡ false) (no_state : list_any (λ row. test row.0) states ≡ false)
    (no_level : list_any (λ row. test row.0) event_kinds ≡ false) (no_comparison : list_any (λ row. test row.0) comparisons ≡ false)
    (text : List ℕ) (passes : test text ≡ true) where
  unreserved : is_reserved text ≡ false
  unreserved = or_none_of_four (list_any (bytes_eq text) other_words) (is_some (field_type text)) (is_some (state text)) (is_some (event_kind text))
      (none_of test other_words no_word text passes) (no_value test field_types no_type text passes) (no_value test states no_state text passes)
      (no_value test event_kinds no_level text passes)

  no_reserved : (letters : List ℕ) → is_reserved letters ≡ true → (is_word text && bytes_eq letters text) ≡ false
  no_reserved letters reserved = and_second_false (is_word text) _ (not_true (bytes_eq letters text) apart)
    where
      apart : bytes_eq letters text ≡ true → ⊥
      apart e = cc (sym reserved ∙ ap is_reserved ((bytes_eq-Decides letters text).0 e) ∙ unreserved)

  -- it is an operand where it is a name, and else of no class but those of names, numbers and strings
  none_but : (wanted : Class) → IsOfGrammar wanted → (a b c : Bool) → is_name text ≡ a → is_some (number text) ≡ b → is_string text ≡ c →
      fits wanted text ≡ expected a b c wanted
  none_but class.Item ok a b c p q r = none_of test items no_item text passes
  none_but class.Name ok a b c p q r = p
  none_but class.Number ok a b c p q r = q
  none_but class.Text ok a b c p q r = r
  none_but class.FieldKind ok a b c p q r = no_value test field_types no_type text passes
  none_but class.State ok a b c p q r = no_value test states no_state text passes
  none_but class.Level ok a b c p q r = no_value test event_kinds no_level text passes
  none_but class.Operand ok a b c p q r = ap (λ b. b || is_name text) (none_of test operands no_operand text passes) ∙ p
  none_but class.Compare ok a b c p q r = no_value test comparisons no_comparison text passes
  none_but (class.Word letters) ok a b c p q r = no_reserved letters ok
  none_but (class.Sign letters) ok a b c p q r = and_first_false (is_sign text) _ (none_of test signs no_sign text passes)

name_fits : (text : List ℕ) → is_name text ≡ true → (wanted : Class) → IsOfGrammar wanted → fits wanted text ≡ kind_fits wanted Name
name_fits text is wanted ok = others ∙ same wanted
  where
    letter : begins is_letter text ≡ true
    letter = word_begins text (and_first (is_word text) _ is)

    others : fits wanted text ≡ expected true false false wanted
    others = none_but is_name refl refl refl refl refl refl refl refl text is wanted ok true false false is
        (no_number text (letter_begins_no_numeral text letter)) (no_string text (letter_begins_no_string text letter))

    same : (wanted : Class) → expected true false false wanted ≡ kind_fits wanted Name
    same class.Item = refl
    same other = refl

number_fits : (text : List ℕ) (value : ℤ) → number text ≡ Some value → (wanted : Class) → IsOfGrammar wanted →
    fits wanted text ≡ kind_fits wanted (Number value)
number_fits text value is wanted ok = others ∙ same wanted
  where
    numeral : begins_numeral text ≡ true
    numeral = number_begins text value is

    others : fits wanted text ≡ expected false true false wanted
    others = none_but begins_numeral refl refl refl refl refl refl refl refl text numeral wanted ok false true false
        (and_first_false (is_word text) _ (no_word text (numeral_begins_no_word text numeral))) (ap is_some is)
        (no_string text (numeral_begins_no_string text numeral))

    same : (wanted : Class) → expected false true false wanted ≡ kind_fits wanted (Number value)
    same class.Item = refl
    same other = refl

string_fits : (text : List ℕ) → is_string text ≡ true → (wanted : Class) → IsOfGrammar wanted → fits wanted text ≡ kind_fits wanted Text
string_fits text is wanted ok = others ∙ same wanted
  where
    quoted : begins is_quote text ≡ true
    quoted = string_begins text is

    others : fits wanted text ≡ expected false false true wanted
    others = none_but (begins is_quote) refl refl refl refl refl refl refl refl text quoted wanted ok false false true
        (and_first_false (is_word text) _ (no_word text (quote_begins_no_word text quoted)))
        (no_number text (quote_begins_no_numeral text quoted)) is

    same : (wanted : Class) → expected false false true wanted ≡ kind_fits wanted Text
    same class.Item = refl
    same other = refl

-- no word stands for the state that no rule begins in
never_off : (text : List ℕ) → state text ≡ Some PermOff → ⊥
never_off text is =
    let same : text ≡ [] = text_of_value (λ mode. text_of (State mode)) states refl text PermOff is in
    cc (sym is ∙ ap state same)

-- ---- the law

pub kind_decides : (wanted : Class) (kind : TokenKind) (text : List ℕ) → IsOfGrammar wanted → IsKind kind text → fits wanted text ≡ kind_fits wanted kind
kind_decides wanted Name text ok is = name_fits text is wanted ok
kind_decides wanted (Number value) text ok is = number_fits text value is wanted ok
kind_decides wanted Text text ok is = string_fits text is wanted ok
kind_decides wanted (State PermOff) text ok is = absurd (never_off text is)
kind_decides wanted (State Active) text ok is = spelled_fits (State Active) text refl (same_text (State Active) text refl is) wanted
kind_decides wanted (FieldKind U8) text ok is = spelled_fits (FieldKind U8) text refl (same_text (FieldKind U8) text refl is) wanted
kind_decides wanted (Level Debug) text ok is = spelled_fits (Level Debug) text refl (same_text (Level Debug) text refl is) wanted
kind_decides wanted (Compare Less) text ok is = spelled_fits (Compare Less) text refl (same_text (Compare Less) text refl is) wanted
kind_decides wanted kind text ok is = spelled_fits kind text refl (same_text kind text refl is) wanted
