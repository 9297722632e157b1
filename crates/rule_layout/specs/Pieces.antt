-- How the pieces of a text are read. This project's own.
use Rattle.std.specs.Prelude.{ℕ, ◌<◌, ◌≤◌, Bool, false, not, ◌==◌, List, [], ◌∷◌, length, map, Option, Some, None}
use Rattle.lc_model.specs.Text.Token.{Cuts, is_blank, line_feed}
use Rattle.rule_lexer.specs.declared.token.Token.{Token}
use Rattle.rule_lexer.specs.Token.{tokens_of}
use Rattle.rule_layout.specs.declared.piece.Piece.{Piece}
use Rattle.rule_layout.specs.Shapes.{HasShapes, Shape}

-- what a piece of the program is
abbrev pub shape_of : Piece → Shape
shape_of piece = record { text = piece.text.now; lines = piece.lines }

abbrev pub shapes_of : List Piece → List Shape
shapes_of = map shape_of

-- any byte but a line feed
abbrev pub is_line_byte : ℕ → Bool
is_line_byte c = not (c == line_feed)

-- whether a blank stands in front
abbrev pub begins_blank : List ℕ → Bool
begins_blank [] = false
begins_blank (c ∷ cs) = is_blank c

-- the text splits into these tokens, from some place on
abbrev pub SplitsInto : List ℕ → List Token → Type 0
SplitsInto text tokens = (at : ℕ) × (end : ℕ) × Cuts at text (tokens_of tokens) end []

-- after blanks with so many line feeds the rest of a text begins
pub record HasSkipped (text rest : List ℕ) (lines : ℕ) (tokens : List Token) : Type 0 where
  pub shapes : (shapes : List Shape) → HasShapes lines rest shapes → HasShapes 0 text shapes
  pub splits : SplitsInto rest tokens
  pub fewer : length rest ≤ length text
  pub few : lines ≤ 2

-- behind this piece the rest of a text begins, which splits into these tokens
pub record HasTaken (before : ℕ) (text : List ℕ) (shape : Shape) (rest : List ℕ) (tokens : List Token) : Type 0 where
  pub shapes : (shapes : List Shape) → HasShapes 0 rest shapes → HasShapes before text (shape ∷ shapes)
  pub splits : SplitsInto rest tokens
  pub fewer : length rest < length text

-- the next piece of a text was taken; or there is none
abbrev pub IsNext : List ℕ → List ℕ → List Token → Option Piece → Type 0
IsNext text rest tokens None = HasShapes 0 text []
IsNext text rest tokens (Some piece) = HasTaken 0 text (shape_of piece) rest tokens
