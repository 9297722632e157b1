-- A row as a JSON object. This project's own, by the tokens of `json`.
use Rattle.std.specs.Prelude.{ℕ, List, [], ◌∷◌, ◌++◌, Bool, true, not, ◌&&◌, ◌==◌, nat_lt, fold, decimal}
use Rattle.std.specs.Borrow.{Bor}
use Rattle.json.specs.Print.{token_text}
use Rattle.json.specs.Token.{Token, null, number, string}
use Rattle.packet_rows.specs.declared.cell.Cell.{Cell}
use Rattle.packet_rows.specs.declared.cell.Cell.TheVariants as cell

-- the value of a cell
abbrev pub value_of : Cell → Token
value_of cell.Empty = null
value_of (cell.Number n) = number (decimal n)
value_of (cell.Text text) = string text.now

-- each key, and the text of its cell's value
unfoldable pub members_text : List (Bor (List ℕ)) → List Cell → List ℕ
members_text (key ∷ keys) (cell ∷ cells) = (key.now ++ token_text (value_of cell)) ++ members_text keys cells
members_text [] cells = []
members_text (key ∷ keys) [] = []

-- a byte that stands in a string as it is
abbrev pub is_plain_byte : ℕ → Bool
is_plain_byte x = nat_lt 31 x && (not (x == 34) && not (x == 92))

abbrev pub is_plain : List ℕ → Bool
is_plain = fold (λ is x. is && is_plain_byte x) true
