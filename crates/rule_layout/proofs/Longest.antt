-- No token grows into a blank, a `;` or a `)` behind it.
use Rattle.std.proofs.Common.{◌≡◌, refl, ℕ, Bool, true, false, ◌&&◌, ◌||◌, ◌==◌, List, [], ◌∷◌, ◌++◌, codes}
use Rattle.std.specs.Prelude.{bytes_eq, nat_le, length}
use Rattle.std.specs.List.{list_all}
use Rattle.std.specs.Char.{is_ascii_digit}
use Rattle.lc_model.specs.Text.Token.{IsLongest, is_closed, is_lexeme, is_letter, is_numeral, is_sign, is_string, is_text_byte, is_token, is_word, is_word_byte, quote}
use Rattle.lc_model.proofs.Facts.{and_first, and_first_false, and_second, and_second_false, or_neither, tested_equal}

-- the bytes that end a token: a line feed, a space, `;` and `)`
pub data Ends : ℕ → Type 0 where
  feed : Ends 10
  space : Ends 32
  semicolon : Ends 59
  close : Ends 41

-- a list with a byte that fails the test
stops : (test : ℕ → Bool) (w : List ℕ) (c : ℕ) (more : List ℕ) → test c ≡ false → list_all test (w ++ c ∷ more) ≡ false
stops test [] c more e = and_first_false (test c) (list_all test more) e
stops test (x ∷ w) c more e = and_second_false (test x) (list_all test (w ++ c ∷ more)) (stops test w c more e)

no_word_byte : (c : ℕ) → Ends c → is_word_byte c ≡ false
no_word_byte c feed = refl
no_word_byte c space = refl
no_word_byte c semicolon = refl
no_word_byte c close = refl

no_digit : (c : ℕ) → Ends c → is_ascii_digit c ≡ false
no_digit c feed = refl
no_digit c space = refl
no_digit c semicolon = refl
no_digit c close = refl

no_word : (x : ℕ) (w : List ℕ) (c : ℕ) (more : List ℕ) → Ends c → is_word (x ∷ w ++ c ∷ more) ≡ false
no_word x w c more end = and_second_false (is_letter x) _ (stops is_word_byte w c more (no_word_byte c end))

no_numeral : (x : ℕ) (w : List ℕ) (c : ℕ) (more : List ℕ) → Ends c → is_numeral (x ∷ w ++ c ∷ more) ≡ false
no_numeral x [] c more end = go (x == 45) refl
  where
    go : (b : Bool) → (x == 45) ≡ b → is_numeral (x ∷ c ∷ more) ≡ false
    go true e = rw e (and_first_false (is_ascii_digit c) (list_all is_word_byte more) (no_digit c end))
    go false e = rw e (and_second_false (is_ascii_digit x) (list_all is_word_byte (c ∷ more)) (stops is_word_byte [] c more (no_word_byte c end)))
no_numeral x (y ∷ w) c more end = go (x == 45) refl
  where
    go : (b : Bool) → (x == 45) ≡ b → is_numeral (x ∷ y ∷ w ++ c ∷ more) ≡ false
    go true e = rw e (and_second_false (is_ascii_digit y) (list_all is_word_byte (w ++ c ∷ more)) (stops is_word_byte w c more (no_word_byte c end)))
    go false e = rw e (and_second_false (is_ascii_digit x) (list_all is_word_byte (y ∷ w ++ c ∷ more)) (stops is_word_byte (y ∷ w) c more (no_word_byte c end)))

-- a closed string has its one quote at the end
closed_stops : (w : List ℕ) (c : ℕ) (more : List ℕ) → is_closed w ≡ true → is_closed (w ++ c ∷ more) ≡ false
closed_stops [] c more e = absurd (cc e)
closed_stops (q ∷ []) c more e = let same : q ≡ quote = tested_equal q quote e in rw same refl
closed_stops (x ∷ y ∷ w) c more e =
    and_second_false (is_text_byte x) (is_closed (y ∷ w ++ c ∷ more))
    (closed_stops (y ∷ w) c more (and_second (is_text_byte x) (is_closed (y ∷ w)) e))

or_nothing : (a : Bool) → (a || false) ≡ true → a ≡ true
or_nothing true e = refl
or_nothing false e = e

-- a token that begins with a quote is a string
quoted_is_closed : (w : List ℕ) → is_token (quote ∷ w) ≡ true → is_closed w ≡ true
quoted_is_closed w e = and_first (is_closed w) (nat_le (length w) 32) (or_nothing (is_closed w && nat_le (length w) 32) e)

no_string : (x : ℕ) (w : List ℕ) (c : ℕ) (more : List ℕ) → is_token (x ∷ w) ≡ true → is_string (x ∷ w ++ c ∷ more) ≡ false
no_string x w c more good = go (x == quote) refl
  where
    go : (b : Bool) → (x == quote) ≡ b → is_string (x ∷ w ++ c ∷ more) ≡ false
    go false e = rw e refl
    go true e =
        let same : x ≡ quote = tested_equal x quote e in
        rw (e, closed_stops w c more (quoted_is_closed w (rw same at good))) refl

more_than_none : (w : List ℕ) (c : ℕ) (more : List ℕ) → bytes_eq (w ++ c ∷ more) [] ≡ false
more_than_none [] c more = refl
more_than_none (x ∷ w) c more = refl

more_than_equals : (w : List ℕ) (c : ℕ) (more : List ℕ) → Ends c → bytes_eq (w ++ c ∷ more) (61 ∷ []) ≡ false
more_than_equals [] c more feed = refl
more_than_equals [] c more space = refl
more_than_equals [] c more semicolon = refl
more_than_equals [] c more close = refl
more_than_equals (x ∷ w) c more end = and_second_false (x == 61) (bytes_eq (w ++ c ∷ more) []) (more_than_none w c more)

no_sign : (x : ℕ) (w : List ℕ) (c : ℕ) (more : List ℕ) → Ends c → is_sign (x ∷ w ++ c ∷ more) ≡ false
no_sign x w c more end =
    or_neither _ _ (one 61) (or_neither _ _ (one 59) (or_neither _ _ (one 40) (or_neither _ _ (one 41) (or_neither _ _ (one 60)
    (or_neither _ _ (two 60) (or_neither _ _ (two 33) (or_neither _ _ (two 61) (or_neither _ _ (two 62) (or_neither _ _ (one 62) refl)))))))))
  where
    one : (s : ℕ) → bytes_eq (x ∷ w ++ c ∷ more) (s ∷ []) ≡ false
    one s = and_second_false (x == s) (bytes_eq (w ++ c ∷ more) []) (more_than_none w c more)

    two : (s : ℕ) → bytes_eq (x ∷ w ++ c ∷ more) (s ∷ 61 ∷ []) ≡ false
    two s = and_second_false (x == s) (bytes_eq (w ++ c ∷ more) (61 ∷ [])) (more_than_equals w c more end)

no_lexeme : (w : List ℕ) (c : ℕ) (more : List ℕ) → is_token w ≡ true → Ends c → is_lexeme (w ++ c ∷ more) ≡ false
no_lexeme [] c more good end = absurd (cc good)
no_lexeme (x ∷ w) c more good end =
    rw (no_word x w c more end, no_numeral x w c more end, no_string x w c more good, no_sign x w c more end) refl

-- ---- what may follow

pub before_end : (w : List ℕ) (c : ℕ) (more : List ℕ) → is_token w ≡ true → Ends c → IsLongest w (c ∷ more)
before_end w c more good end = go
  where
    go : (further others : List ℕ) → further ++ others ≡ c ∷ more → is_lexeme (w ++ further) ≡ true → further ≡ []
    go [] others e is = refl
    go (d ∷ ds) others e is =
        let same : d ≡ c = cc e in
        absurd (cc (rw same at is, no_lexeme w c ds good end))

pub behind_open : (more : List ℕ) → IsLongest (codes "(") more
behind_open more = go
  where
    go : (further others : List ℕ) → further ++ others ≡ more → is_lexeme (codes "(" ++ further) ≡ true → further ≡ []
    go [] others e is = refl
    go (d ∷ ds) others e is = absurd (cc is)
