-- What stands in front and is no token is bad.
use Rattle.std.proofs.Common.{◌≡◌, refl, ◌∙◌, ap, subst, ℕ, ◌<◌, Bool, true, false, ◌&&◌, ◌||◌, ◌==◌, nat_le, List, [], ◌∷◌, ◌++◌, length, take, drop, Option, Some, None, is_some, MatchOption, MatchResult, take-append-drop, length-take-le, arith}
use Rattle.std.specs.Option.{ok_or}
use Rattle.lc_model.specs.Text.Token.{BeginsNoLexeme, IsBad, bad_byte, bad_number, bad_string, name_too_long, is_blank, is_letter, is_numeral, is_sign, is_string, is_token, is_word, longest_name, number, number_sign, quote}
use Rattle.lc_model.proofs.Facts.{or_first, or_second, or_none_of_four}
use Rattle.rule_lexer.specs.declared.error.LexError.TheVariants.{BadByte}
use Rattle.rule_lexer.specs.declared.lexeme.Lexeme.{Lexeme}
use Rattle.rule_lexer.specs.Front.{IsBadFront, IsFront, IsFrontSign, IsFrontToken, LacksSign, begins, begins_numeral, is_gap_byte, is_quote}
use Rattle.rule_lexer.proofs.Lexemes.{no_word, no_numeral, no_string}

pub long_word : (text : List ℕ) (count : ℕ) → IsFront is_word text count → longest_name < count → IsBad 3 text
long_word text count front long =
    subst (IsBad 3) (take-append-drop count text) (name_too_long (take count text) (drop count text) front.passes front.longest exceeds)
  where
    exceeds : longest_name < length (take count text)
    exceeds = let within = front.within in omega (arith, length-take-le count text within)

pub bad_numeral : (text : List ℕ) (count : ℕ) → IsFront is_numeral text count → number (take count text) ≡ None → IsBad 2 text
bad_numeral text count front none =
    subst (IsBad 2) (take-append-drop count text) (bad_number (take count text) (drop count text) front.passes front.longest none)

pub unclosed : (text : List ℕ) → begins is_quote text ≡ true → BeginsNoLexeme text → IsBad 4 text
unclosed [] begun none = absurd (cc begun)
unclosed (c ∷ cs) begun none = bad_string (grind (arith, begun)) none

-- ---- a byte that begins nothing

kept : (test : ℕ → Bool) (front rest text : List ℕ) → front ++ rest ≡ text → begins test text ≡ false → begins test front ≡ false
kept test [] rest text e none = refl
kept test (c ∷ cs) rest text e none = ap (begins test) e ∙ none

numeral_kept : (front rest text : List ℕ) → front ++ rest ≡ text → begins_numeral text ≡ false → begins_numeral front ≡ false
numeral_kept [] rest text e none = refl
numeral_kept (c ∷ []) rest text e none = go (c == 45) refl (ap begins_numeral e ∙ none)
  where
    go : (b : Bool) → (c == 45) ≡ b → begins_numeral (c ∷ rest) ≡ false → begins_numeral (c ∷ []) ≡ false
    go true minus never = rw minus refl
    go false minus never = rw minus (rw minus at never)
numeral_kept (c ∷ d ∷ ds) rest text e none = go (c == 45) refl (ap begins_numeral e ∙ none)
  where
    go : (b : Bool) → (c == 45) ≡ b → begins_numeral (c ∷ d ∷ ds ++ rest) ≡ false → begins_numeral (c ∷ d ∷ ds) ≡ false
    go true minus never = rw minus (rw minus at never)
    go false minus never = rw minus (rw minus at never)

-- where no word, number or string begins, only a sign could
nothing_begins : (text : List ℕ) → begins is_letter text ≡ false → begins_numeral text ≡ false → begins is_quote text ≡ false → LacksSign text →
    BeginsNoLexeme text
nothing_begins text letter numeral quoted no_sign front rest e =
    or_none_of_four (is_word front) (is_numeral front) (is_string front) (is_sign front)
    (no_word front (kept is_letter front rest text e letter)) (no_numeral front (numeral_kept front rest text e numeral))
    (no_string front (kept is_quote front rest text e quoted)) (no_sign front rest e)

differs : (m n : ℕ) → (m == n) ≡ false → m ≡ n → ⊥
differs m n other same = absurd (grind (arith, other, same))

pub wrong_byte : (text : List ℕ) → 0 < length text → begins is_gap_byte text ≡ false → begins is_letter text ≡ false →
    begins_numeral text ≡ false → begins is_quote text ≡ false → LacksSign text → IsBad 1 text
wrong_byte [] some no_gap letter numeral quoted no_sign = absurd (omega arith)
wrong_byte (c ∷ cs) some no_gap letter numeral quoted no_sign =
    bad_byte (or_first (is_blank c) _ no_gap) (differs c number_sign (or_second (is_blank c) _ no_gap)) (differs c quote quoted)
    (nothing_begins (c ∷ cs) letter numeral quoted no_sign)

-- ---- a sign, or such a byte

sign_is_token : (w : List ℕ) → is_sign w ≡ true → is_token w ≡ true
sign_is_token w is = last_of (is_word w && nat_le (length w) longest_name) (is_numeral w && is_some (number w)) (is_string w) (is_sign w) is
  where
    last_of : (a b c d : Bool) → d ≡ true → (a || b || c || d) ≡ true
    last_of true b c d e = refl
    last_of false true c d e = refl
    last_of false false true d e = refl
    last_of false false false d e = e

pub sign_or_bad : (at : ℕ) (text : List ℕ) (found : Option Lexeme) → MatchOption found (LacksSign text) (IsFrontSign text) →
    (LacksSign text → IsBad 1 text) → MatchResult (ok_or found (BadByte at)) (IsFrontToken text) (IsBadFront at text)
sign_or_bad at text None lacks bad = (refl, bad lacks)
sign_or_bad at text (Some lexeme) is bad = record {
  front = record {
    within = is.front.within;
    passes = sign_is_token (take lexeme.length text) is.front.passes;
    longest = is.front.longest;
  };
  kind = is.kind;
}
