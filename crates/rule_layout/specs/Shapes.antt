-- The pieces of a rule text: tokens and comments with the line feeds before them. This project's own.
use Rattle.std.specs.Prelude.{IsTrue, ◌≢◌, ℕ, ◌+◌, min, Bool, false, if◌then◌else◌, ◌==◌, List, [], ◌∷◌, ◌++◌}
use Rattle.lc_model.specs.Text.Token.{IsComment, IsLongest, is_blank, is_token, line_feed, number_sign}

-- a token or a comment, and the line feeds between the piece before it and this one
pub record Shape : Type 0 where
  pub text : List ℕ
  pub lines : ℕ

-- whether a piece is a comment: no token begins with `#`
abbrev pub is_comment : List ℕ → Bool
is_comment [] = false
is_comment (c ∷ cs) = c == number_sign

-- one line feed more, of which two count
abbrev pub one_line_more : ℕ → ℕ
one_line_more lines = min (lines + 1) 2

-- the line feeds that count after a blank more
abbrev pub lines_after : ℕ → ℕ → ℕ
lines_after lines c = if c == line_feed then one_line_more lines else lines

-- the text is these pieces, where so many line feeds stand before the text
pub data HasShapes : ℕ → List ℕ → List Shape → Type 0 where
  none : {lines : ℕ} → HasShapes lines [] []
  blank : {lines c : ℕ} {text : List ℕ} {shapes : List Shape} → IsTrue (is_blank c) → c ≢ line_feed →
      HasShapes lines text shapes → HasShapes lines (c ∷ text) shapes
  line : {lines : ℕ} {text : List ℕ} {shapes : List Shape} → HasShapes (one_line_more lines) text shapes →
      HasShapes lines (line_feed ∷ text) shapes
  comment : {lines : ℕ} {text : List ℕ} {shapes : List Shape} (bytes : List ℕ) → IsComment bytes text →
      HasShapes 0 text shapes → HasShapes lines (bytes ++ text) (record { text = bytes; lines = lines } ∷ shapes)
  token : {lines : ℕ} {text : List ℕ} {shapes : List Shape} (word : List ℕ) → IsTrue (is_token word) → IsLongest word text →
      HasShapes 0 text shapes → HasShapes lines (word ++ text) (record { text = word; lines = lines } ∷ shapes)
