-- Reading the tokens from left to right. This project's own.
use Rattle.std.specs.Prelude.{◌≡◌, ℕ, Bool, true, false, if◌then◌else◌, List, [], ◌∷◌, Option, Some, None}
use Rattle.lc_model.specs.Text.Token as model
use Rattle.lc_model.specs.Text.Token.{string_text}
use Rattle.lc_model.specs.Text.Class as class
use Rattle.lc_model.specs.Text.Class.{Class, word, sign, fits}
use Rattle.lc_model.specs.Text.Grammar.{number_of}
use Rattle.lc_model.specs.Text.Syntax as syntax
use Rattle.rule_lexer.specs.Fitting.{IsOfGrammar, kind_fits}
use Rattle.rule_lexer.specs.Token.{token_of, HasItsKind}
use Rattle.rule_lexer.specs.declared.token.Token.{Token}
use Rattle.rule_lexer.specs.declared.token.TokenKind.{TokenKind}
use Rattle.rule_lexer.specs.declared.token.TokenKind.TheVariants.{Packet, Field, Rule, Mid, Length, At, Mask, Stale, Fails, Sequence, Event, Report, When, Or, Xor, And, Not, FieldKind, State, Level, Name, Number, Text, Equals, Semicolon, Open, Close, Compare}

-- The class of each token kind.
abbrev pub class_of : TokenKind → Class
class_of Packet = word "packet"
class_of Field = word "field"
class_of Rule = word "rule"
class_of Mid = word "mid"
class_of Length = word "length"
class_of At = word "at"
class_of Mask = word "mask"
class_of Stale = word "stale"
class_of Fails = word "fails"
class_of Sequence = word "sequence"
class_of Event = word "event"
class_of Report = word "report"
class_of When = word "when"
class_of Or = word "or"
class_of Xor = word "xor"
class_of And = word "and"
class_of Not = word "not"
class_of (FieldKind kind) = class.FieldKind
class_of (State mode) = class.State
class_of (Level kind) = class.Level
class_of Name = class.Name
class_of (Number value) = class.Number
class_of Text = class.Text
class_of Equals = sign "="
class_of Semicolon = sign ";"
class_of Open = sign "("
class_of Close = sign ")"
class_of (Compare op) = class.Compare

-- Whether the token kind carries no value.
abbrev pub is_plain : TokenKind → Bool
is_plain (FieldKind kind) = false
is_plain (State mode) = false
is_plain (Level kind) = false
is_plain (Number value) = false
is_plain (Compare op) = false
is_plain kind = true

-- The token has the kind that its text gives, and its kind decides the classes that it fits.
pub record IsRead (t : Token) : Type 0 where
  pub kind : HasItsKind t
  pub classes : (wanted : Class) → IsOfGrammar wanted → fits wanted t.text.now ≡ kind_fits wanted t.kind

-- The next token of `before` is this one, and `after` follows it; or there is no token, and `before` is empty.
abbrev pub IsNext : (before after : List model.Token) → Option Token → Type 0
IsNext before after None = before ≡ []
IsNext before after (Some t) = (before ≡ token_of t ∷ after) × IsRead t

-- ---- reading from left to right

-- The second step on the result of the first; `None` if either fails.
infixl 10 ◌>>=◌
abbrev pub ◌>>=◌ : {A B : Type 0} → Option A → (A → Option B) → Option B
None >>= f = None
(Some x) >>= f = f x

-- The function returned what this reading gives, and left the tokens `after`.
abbrev pub Gives : {X Y : Type 0} → (X → Y) → (after : List model.Token) → Option X → Option (Y × List model.Token) → Type 0
Gives view after (Some x) read = read ≡ Some (view x, after)
Gives view after None read = read ≡ None

-- Whether no token is left.
abbrev pub is_empty : List model.Token → Bool
is_empty [] = true
is_empty (t ∷ ts) = false

-- The place of the next token, or of the end of the text.
abbrev pub place_in : ℕ → List model.Token → ℕ
place_in end [] = end
place_in end (t ∷ ts) = t.at

-- Reads a token of this class.
unfoldable pub token_at : Class → List model.Token → Option (model.Token × List model.Token)
token_at wanted [] = None
token_at wanted (t ∷ ts) = if fits wanted t.text then Some (t, ts) else None

-- Reads a token of this class, and its value.
unfoldable pub value_at : {A : Type 0} → Class → (List ℕ → Option A) → List model.Token → Option (A × List model.Token)
value_at wanted read tokens = do
  t ← token_at wanted tokens
  v ← read t.0.text
  Some (v, t.1)

-- Reads a number.
unfoldable pub number_at : List model.Token → Option (syntax.Number × List model.Token)
number_at tokens = do
  t ← token_at class.Number tokens
  Some (number_of t.0, t.1)

-- Reads a string, without its quotes.
unfoldable pub string_at : List model.Token → Option (List ℕ × List model.Token)
string_at tokens = do
  t ← token_at class.Text tokens
  Some (string_text t.0.text, t.1)

-- Whether the next token is of this class.
unfoldable pub begins : Class → List model.Token → Bool
begins wanted [] = false
begins wanted (t ∷ ts) = fits wanted t.text
