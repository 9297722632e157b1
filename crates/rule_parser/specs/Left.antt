-- Reading from left to right, up to the first fault. This project's own.
use Rattle.std.specs.Prelude.{◌≡◌, ℕ, Bool, true, false, if◌then◌else◌, List, ◌∷◌, Option, Some, None, Result, Ok, Err}
use Rattle.lc_model.specs.Text.Token.{Token}
use Rattle.lc_model.specs.Text.Syntax as syntax
use Rattle.lc_model.specs.Text.Class as class
use Rattle.lc_model.specs.Text.Class.{Class, Fits, word, sign, field_type, state, event_kind, comparison}
use Rattle.lc_model.specs.Text.Reading.{ParseFault, Expected}
use Rattle.rule_parser.specs.declared.error.ParseError.{ParseError}
use Rattle.rule_parser.specs.Fault.{Refuses}
use Rattle.rule_parser.specs.Front.{begins, place_in, token_at, value_at, number_at, string_at}

-- The unread tokens, and the place where the text ends.
pub record Left : Type 0 where
  pub tokens : List Token
  pub end : ℕ

-- The place of the next token, or of the text's end.
abbrev pub place : Left → ℕ
place left = place_in left.end left.tokens

-- A value and the tokens after it, or the fault.
abbrev pub Reading : Type 0 → Type 0
Reading A = Result (A × Left) ParseFault

-- The second step on the result of the first; a fault of the first ends both.
infixl 10 ◌>>=◌
abbrev pub ◌>>=◌ : {A B : Type 0} → Result A ParseFault → (A → Result B ParseFault) → Result B ParseFault
(Err fault) >>= f = Err fault
(Ok x) >>= f = f x

-- The function returned what this reading gives, and left the tokens `after`; or it returned the reading's fault, or lack of
-- memory.
abbrev pub Reads : {X Y : Type 0} → (X → Y) → (after : Left) → Result X ParseError → Reading Y → Type 0
Reads view after (Ok x) read = read ≡ Ok (view x, after)
Reads view after (Err error) read = Refuses (λ fault. read ≡ Err fault) error

-- The result, or fault 11 at the next token: this class is expected.
abbrev pub wanting : {A : Type 0} → Class → Left → Option (A × List Token) → Reading A
wanting wanted left None = Err (Expected (place left) wanted)
wanting wanted left (Some x) = Ok (x.0, record left { tokens = x.1 })

-- A token of the class was read; or (`false`) the next token is not of the class.
abbrev pub Takes : Class → (before left : Left) → Bool → Type 0
Takes wanted before left true = (t : Token) × (before.tokens ≡ t ∷ left.tokens) × Fits wanted t × (left.end ≡ before.end)
Takes wanted before left false = (left ≡ before) × (begins wanted before.tokens ≡ false)

-- ---- single tokens

-- Reads a word or a sign.
unfoldable pub token_in : Class → Left → Reading Token
token_in wanted left = wanting wanted left (token_at wanted left.tokens)

-- Reads a name.
unfoldable pub name_in : Left → Reading Token
name_in left = wanting class.Name left (token_at class.Name left.tokens)

-- Reads a name as an operand.
unfoldable pub operand_name_in : Left → Reading Token
operand_name_in left = wanting class.Operand left (token_at class.Name left.tokens)

-- Reads a number.
unfoldable pub number_in : Left → Reading syntax.Number
number_in left = wanting class.Number left (number_at left.tokens)

-- Reads a string, without its quotes.
unfoldable pub string_in : Left → Reading (List ℕ)
string_in left = wanting class.Text left (string_at left.tokens)

-- Reads a token of this class, and its value.
unfoldable pub value_in : {A : Type 0} → Class → (List ℕ → Option A) → Left → Reading A
value_in wanted read left = wanting wanted left (value_at wanted read left.tokens)

-- ---- several tokens

-- Reads a word and a number.
unfoldable pub labelled_in : Class → Left → Reading syntax.Number
labelled_in wanted left = do
  w ← token_in wanted left
  number_in w.1

-- Reads a word and a number, as an optional part that is there.
unfoldable pub some_in : Class → Left → Reading (Option syntax.Number)
some_in wanted left = do
  n ← labelled_in wanted left
  Ok (Some n.0, n.1)

-- Reads a word and a number, if that word comes next.
unfoldable pub option_in : Class → Left → Reading (Option syntax.Number)
option_in wanted left = if begins wanted left.tokens then some_in wanted left else Ok (None, left)

-- Reads `report` and three numbers.
unfoldable pub reports_in : Left → Reading (Option syntax.ReportItem)
reports_in left = do
  w ← token_in (word "report") left
  a ← number_in w.1
  b ← number_in a.1
  c ← number_in b.1
  Ok (Some (record { passive = a.0; pass_to_fail = b.0; fail_to_pass = c.0 }), c.1)

-- Reads `report` and three numbers, if `report` comes next.
unfoldable pub report_in : Left → Reading (Option syntax.ReportItem)
report_in left = if begins (word "report") left.tokens then reports_in left else Ok (None, left)

-- Reads a comparison.
unfoldable pub comparison_in : Left → Reading syntax.Expression
comparison_in left = do
  field ← operand_name_in left
  op ← value_in class.Compare comparison field.1
  value ← number_in op.1
  Ok (syntax.Compare field.0 op.0 value.0, value.1)
