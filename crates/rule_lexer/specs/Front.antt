-- What the lexer's steps find at the start of a text. This project's own.
use Rattle.std.specs.Prelude.{◌≡◌, ℕ, ◌+◌, ◌≤◌, Bool, false, not, ◌||◌, ◌==◌, IsTrue, IsFalse, List, [], ◌∷◌, ◌++◌, length, take, drop}
use Rattle.std.specs.Char.{is_ascii_digit}
use Rattle.lc_model.specs.Text.Token.{Cuts, IsBad, IsLongest, is_blank, is_sign, is_token, line_feed, magnitude_text, number_sign, quote, begins_nothing, not_a_number, overlong_name, not_a_string}
use Rattle.rule_lexer.specs.declared.error.LexError.{LexError}
use Rattle.rule_lexer.specs.declared.error.LexError.TheVariants.{BadByte, BadNumber, NameTooLong, BadString, TextTooLong, Memory}
use Rattle.rule_lexer.specs.declared.lexeme.Lexeme.{Lexeme}
use Rattle.rule_lexer.specs.Token.{IsKind}

-- Whether the text has a first byte, and that byte passes the test.
abbrev pub begins : (ℕ → Bool) → List ℕ → Bool
begins test [] = false
begins test (c ∷ cs) = test c

-- Whether a digit stands first, or directly after a leading `-`.
abbrev pub begins_numeral : List ℕ → Bool
begins_numeral text = begins is_ascii_digit (magnitude_text text)

-- Whether the byte is `-`.
abbrev pub is_minus : ℕ → Bool
is_minus c = c == 45

-- Whether the byte is `#`, which begins a comment.
abbrev pub is_number_sign : ℕ → Bool
is_number_sign c = c == number_sign

-- Whether the byte is `"`, which begins a string.
abbrev pub is_quote : ℕ → Bool
is_quote c = c == quote

-- Whether the byte is no line feed.
abbrev pub is_line_byte : ℕ → Bool
is_line_byte c = not (c == line_feed)

-- Whether the byte is a blank or begins a comment.
abbrev pub is_gap_byte : ℕ → Bool
is_gap_byte c = is_blank c || is_number_sign c

-- The first `count` bytes of the text pass the test, and no further bytes of the text extend them to a longer form of a token.
pub record IsFront (test : List ℕ → Bool) (text : List ℕ) (count : ℕ) : Type 0 where
  pub within : count ≤ length text
  pub passes : IsTrue (test (take count text))
  pub longest : IsLongest (take count text) (drop count text)

-- The first `count` bytes of the text are blanks and comments, and no blank or comment follows them.
pub record IsGap (text : List ℕ) (count : ℕ) : Type 0 where
  pub within : count ≤ length text
  pub cuts : (at : ℕ) → Cuts at text [] (at + count) (drop count text)
  pub stops : begins is_gap_byte (drop count text) ≡ false

-- The lexeme is a valid token at the start of the text, with its kind.
pub record IsFrontToken (text : List ℕ) (lexeme : Lexeme) : Type 0 where
  pub front : IsFront is_token text lexeme.length
  pub kind : IsKind lexeme.kind (take lexeme.length text)

-- The lexeme is a sign at the start of the text, with its kind.
pub record IsFrontSign (text : List ℕ) (lexeme : Lexeme) : Type 0 where
  pub front : IsFront is_sign text lexeme.length
  pub kind : IsKind lexeme.kind (take lexeme.length text)

-- The text begins with no sign.
abbrev pub LacksSign : List ℕ → Type 0
LacksSign text = (front rest : List ℕ) → front ++ rest ≡ text → IsFalse (is_sign front)

-- The text begins with this fault, whose place is `here`.
abbrev pub IsBadFront : ℕ → List ℕ → LexError → Type 0
IsBadFront here text (BadByte at) = (at ≡ here) × IsBad begins_nothing text
IsBadFront here text (BadNumber at) = (at ≡ here) × IsBad not_a_number text
IsBadFront here text (NameTooLong at) = (at ≡ here) × IsBad overlong_name text
IsBadFront here text (BadString at) = (at ≡ here) × IsBad not_a_string text
IsBadFront here text TextTooLong = ⊥
IsBadFront here text Memory = ⊥
