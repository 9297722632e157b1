-- A text has at most one bad token, and none where it splits.
use Rattle.std.proofs.Common.{◌≡◌, refl, sym, ◌∙◌, ap, ℕ, ◌<◌, ◌⊎◌, inl, inr, Bool, true, false, ◌&&◌, ◌||◌, ◌==◌, nat_le, List, [], ◌∷◌, ◌++◌, length, None, is_some, append-nil, arith}
use Rattle.lc_model.specs.Text.Token.{Token, Splits, IsLongest, is_blank, is_letter, is_token, is_lexeme, is_word, is_numeral, is_string, is_sign, number, longest_name, number_sign, quote, BeginsNoLexeme, IsBad, bad_byte, bad_number, name_too_long, bad_string, HasBadToken}
use Rattle.lc_model.specs.Text.Token.{signs}
use Rattle.std.specs.Char.{is_ascii_digit}
use Rattle.lc_model.proofs.Texts.OneClass.{none_of}
use Rattle.lc_model.proofs.Texts.OneSplit.{fronts, blank_cases, token_is_lexeme, IsStuck, nothing_is_stuck, one_cut}
use Rattle.lc_model.proofs.Facts.{and_first, and_first_false, or_none_of_four, and_second_false}

-- ---- kinds of lexemes

digit_is_no_letter : (c : ℕ) → is_ascii_digit c ≡ true → is_letter c ≡ false
digit_is_no_letter c e = grind (arith, e)

-- a numeral begins with `-` or a digit
numeral_is_no_word : (text : List ℕ) → is_numeral text ≡ true → is_word text ≡ false
numeral_is_no_word [] is = refl
numeral_is_no_word (c ∷ cs) is = go (c == 45) refl
  where
    go : (b : Bool) → (c == 45) ≡ b → is_word (c ∷ cs) ≡ false
    go true e = let same : c ≡ 45 = grind (arith, e) in rw same refl
    go false e =
        let digit : is_ascii_digit c ≡ true = and_first (is_ascii_digit c) _ (rw e at is) in
        and_first_false (is_letter c) _ (digit_is_no_letter c digit)

numeral_is_no_sign : (text : List ℕ) → is_numeral text ≡ true → is_sign text ≡ false
numeral_is_no_sign text is = none_of is_numeral signs refl text is

string_first : (c : ℕ) (cs : List ℕ) → is_string (c ∷ cs) ≡ true → c ≡ quote
string_first c cs is = let first : (c == quote) ≡ true = and_first (c == quote) _ (and_first ((c == quote) && _) _ is) in grind (arith, first)

-- what passes a test that fails behind a quote is no string
no_string : (f : List ℕ → Bool) → ((cs : List ℕ) → f (quote ∷ cs) ≡ false) → (text : List ℕ) → f text ≡ true → is_string text ≡ false
no_string f fails [] fit = refl
no_string f fails (c ∷ cs) fit = go (is_string (c ∷ cs)) refl
  where
    go : (b : Bool) → is_string (c ∷ cs) ≡ b → is_string (c ∷ cs) ≡ false
    go false e = e
    go true e = let same : c ≡ quote = string_first c cs e in absurd (cc (sym fit ∙ ap (λ d. f (d ∷ cs)) same ∙ fails cs))

blank_no_lexeme : (c : ℕ) (cs : List ℕ) → is_blank c ≡ true → is_lexeme (c ∷ cs) ≡ false
blank_no_lexeme c cs e = go (blank_cases c e)
  where
    go : ((c ≡ 32) ⊎ (c ≡ 9)) ⊎ ((c ≡ 10) ⊎ (c ≡ 13)) → is_lexeme (c ∷ cs) ≡ false
    go (inl (inl s)) = rw s refl
    go (inl (inr s)) = rw s refl
    go (inr (inl s)) = rw s refl
    go (inr (inr s)) = rw s refl

comment_no_lexeme : (c : ℕ) (cs : List ℕ) → c ≡ number_sign → is_lexeme (c ∷ cs) ≡ false
comment_no_lexeme c cs s = rw s refl

any_true : (a b c d : Bool) → (a ≡ true) ⊎ (b ≡ true) → (a || b || c || d) ≡ true
any_true true b c d e = refl
any_true false true c d e = refl
any_true false false c d (inl e) = absurd (cc e)
any_true false false c d (inr e) = absurd (cc e)

word_is_lexeme : (text : List ℕ) → is_word text ≡ true → is_lexeme text ≡ true
word_is_lexeme text e = any_true (is_word text) (is_numeral text) (is_string text) (is_sign text) (inl e)

numeral_is_lexeme : (text : List ℕ) → is_numeral text ≡ true → is_lexeme text ≡ true
numeral_is_lexeme text e = any_true (is_word text) (is_numeral text) (is_string text) (is_sign text) (inr e)

over : (n : ℕ) → longest_name < n → nat_le n longest_name ≡ false
over n h = grind (arith, h)

bad_number_no_token : (text : List ℕ) → is_numeral text ≡ true → number text ≡ None → is_token text ≡ false
bad_number_no_token text is none =
    or_none_of_four (is_word text && nat_le (length text) longest_name) (is_numeral text && is_some (number text)) (is_string text) (is_sign text)
    (and_first_false (is_word text) _ (numeral_is_no_word text is))
    (and_second_false (is_numeral text) (is_some (number text)) (ap is_some none))
    (no_string is_numeral (λ cs. refl) text is) (numeral_is_no_sign text is)

word_is_no_numeral : (text : List ℕ) → is_word text ≡ true → is_numeral text ≡ false
word_is_no_numeral text is = go (is_numeral text) refl
  where
    go : (b : Bool) → is_numeral text ≡ b → b ≡ false
    go false e = refl
    go true e = absurd (cc (is, numeral_is_no_word text e))

long_word_no_token : (text : List ℕ) → is_word text ≡ true → longest_name < length text → is_token text ≡ false
long_word_no_token text is long =
    or_none_of_four (is_word text && nat_le (length text) longest_name) (is_numeral text && is_some (number text)) (is_string text) (is_sign text)
    (and_second_false (is_word text) (nat_le (length text) longest_name) (over (length text) long))
    (and_first_false (is_numeral text) _ (word_is_no_numeral text is))
    (no_string is_word (λ cs. refl) text is) (none_of is_word signs refl text is)

-- ---- no step behind a bad token

one_longest : (v text w rest : List ℕ) → is_lexeme v ≡ true → IsLongest v text → is_lexeme w ≡ true → IsLongest w rest →
    v ++ text ≡ w ++ rest → v ≡ w
one_longest v text w rest is longest is' longest' e = go (fronts v text w rest e)
  where
    go : ((more : List ℕ) × (w ≡ v ++ more) × (more ++ rest ≡ text)) ⊎ ((more : List ℕ) × (v ≡ w ++ more) × (more ++ text ≡ rest)) → v ≡ w
    go (inl f) =
        let nothing : f.0 ≡ [] = longest f.0 rest f.2 (ap is_lexeme (sym f.1) ∙ is') in
        sym (f.1 ∙ ap (λ m. v ++ m) nothing ∙ append-nil v)
    go (inr f) =
        let nothing : f.0 ≡ [] = longest' f.0 text f.2 (ap is_lexeme (sym f.1) ∙ is) in
        f.1 ∙ ap (λ m. w ++ m) nothing ∙ append-nil w

lexeme_is_stuck : (text rest : List ℕ) → is_lexeme text ≡ true → IsLongest text rest → is_token text ≡ false → IsStuck (text ++ rest)
lexeme_is_stuck [] rest is longest none = absurd (cc is)
lexeme_is_stuck (d ∷ ds) rest is longest none = record {
  no_blank = λ c others e b. let same : c ≡ d = sym (cc e) in cc (is, blank_no_lexeme d ds (ap is_blank (sym same) ∙ b));
  no_comment = λ c cs others e i. let same : d ≡ c = cc e in cc (is, comment_no_lexeme d ds (same ∙ i.0));
  no_token = λ w others e good longest'. let same : d ∷ ds ≡ w = one_longest (d ∷ ds) rest w others is longest (token_is_lexeme w good) longest' e in cc (sym none ∙ ap is_token same ∙ good);
}

nothing_begins : (c : ℕ) (rest : List ℕ) → is_blank c ≡ false → (c ≡ number_sign → ⊥) → BeginsNoLexeme (c ∷ rest) → IsStuck (c ∷ rest)
nothing_begins c rest no_blank no_comment none = record {
  no_blank = λ d others e b. let same : c ≡ d = cc e in cc (sym no_blank ∙ ap is_blank same ∙ b);
  no_comment = λ d cs others e i. let same : c ≡ d = cc e in no_comment (same ∙ i.0);
  no_token = λ w others e good longest. cc (none w others (sym e), token_is_lexeme w good);
}

differ : quote ≡ number_sign → ⊥
differ e = omega (arith, e)

bad_is_stuck : {code : ℕ} {text : List ℕ} → IsBad code text → IsStuck text
bad_is_stuck (bad_byte {c = c} {rest = rest} no_blank no_comment no_quote none) = nothing_begins c rest no_blank no_comment none
bad_is_stuck (bad_number text rest is longest none) =
    lexeme_is_stuck text rest (numeral_is_lexeme text is) longest (bad_number_no_token text is none)
bad_is_stuck (name_too_long text rest is longest long) =
    lexeme_is_stuck text rest (word_is_lexeme text is) longest (long_word_no_token text is long)
bad_is_stuck (bad_string {c = c} {rest = rest} is none) = nothing_begins c rest (ap is_blank is) (λ e. differ (sym is ∙ e)) none

bad_is_something : {code : ℕ} {text : List ℕ} → IsBad code text → text ≡ [] → ⊥
bad_is_something (bad_byte a b c d) e = cc e
bad_is_something (bad_number [] rest is longest none) e = cc is
bad_is_something (bad_number (c ∷ cs) rest is longest none) e = cc e
bad_is_something (name_too_long [] rest is longest long) e = cc is
bad_is_something (name_too_long (c ∷ cs) rest is longest long) e = cc e
bad_is_something (bad_string a b) e = cc e

-- ---- one fault

one_code : {code other : ℕ} {text text' : List ℕ} → IsBad code text → IsBad other text' → text ≡ text' → code ≡ other
one_code (bad_byte a b c d) (bad_byte a' b' c' d') e = refl
one_code (bad_byte a b c d) (bad_number text rest is longest none) e = absurd (cc (d text rest (sym e), numeral_is_lexeme text is))
one_code (bad_byte a b c d) (name_too_long text rest is longest long) e = absurd (cc (d text rest (sym e), word_is_lexeme text is))
one_code (bad_byte {c = x} a b c d) (bad_string {c = y} is none) e = let same : x ≡ y = cc e in absurd (c (same ∙ is))
one_code (bad_number text rest is longest none) (bad_byte a b c d) e = absurd (cc (d text rest e, numeral_is_lexeme text is))
one_code (bad_number text rest is longest none) (bad_number text' rest' is' longest' none') e = refl
one_code (bad_number text rest is longest none) (name_too_long text' rest' is' longest' long) e =
    let same : text ≡ text' = one_longest text rest text' rest' (numeral_is_lexeme text is) longest (word_is_lexeme text' is') longest' e in
    absurd (cc (ap is_word same, is', numeral_is_no_word text is))
one_code (bad_number text rest is longest none) (bad_string is' none') e = absurd (cc (none' text rest e, numeral_is_lexeme text is))
one_code (name_too_long text rest is longest long) (bad_byte a b c d) e = absurd (cc (d text rest e, word_is_lexeme text is))
one_code (name_too_long text rest is longest long) (bad_number text' rest' is' longest' none) e =
    let same : text ≡ text' = one_longest text rest text' rest' (word_is_lexeme text is) longest (numeral_is_lexeme text' is') longest' e in
    absurd (cc (ap is_word same, is, numeral_is_no_word text' is'))
one_code (name_too_long text rest is longest long) (name_too_long text' rest' is' longest' long') e = refl
one_code (name_too_long text rest is longest long) (bad_string is' none') e = absurd (cc (none' text rest e, word_is_lexeme text is))
one_code (bad_string {c = x} is none) (bad_byte {c = y} a b c d) e = let same : x ≡ y = cc e in absurd (c (sym same ∙ is))
one_code (bad_string is none) (bad_number text rest is' longest' none') e = absurd (cc (none text rest (sym e), numeral_is_lexeme text is'))
one_code (bad_string is none) (name_too_long text rest is' longest' long) e = absurd (cc (none text rest (sym e), word_is_lexeme text is'))
one_code (bad_string is none) (bad_string is' none') e = refl

pub one_bad_token : (text : List ℕ) (code at code' at' : ℕ) → HasBadToken text code at → HasBadToken text code' at' → (code ≡ code') × (at ≡ at')
one_bad_token text code at code' at' (ts, rest, cuts, bad) (ts', rest', cuts', bad') =
    let one = one_cut cuts (bad_is_stuck bad) cuts' (bad_is_stuck bad') in
    (one_code bad bad' one.2, one.1)

pub splits_has_no_bad_token : (text : List ℕ) (tokens : List Token) (code at : ℕ) → Splits text tokens → HasBadToken text code at → ⊥
splits_has_no_bad_token text tokens code at splits (ts, rest, cuts, bad) =
    bad_is_something bad (sym (one_cut splits.1 nothing_is_stuck cuts (bad_is_stuck bad)).2)
