-- The tokens of the program as parts of a text. This project's own.
use Rattle.std.specs.Prelude.{◌≡◌, ℕ, IsTrue, List, map, Some, codes}
use Rattle.lc_model.specs.Text.Token as model
use Rattle.lc_model.specs.Text.Token.{number, is_string}
use Rattle.lc_model.specs.Text.Class.{field_type, state, event_kind, comparison, is_name}
use Rattle.rule_lexer.specs.declared.token.Token.{Token}
use Rattle.rule_lexer.specs.declared.token.TokenKind.{TokenKind}
use Rattle.rule_lexer.specs.declared.token.TokenKind.TheVariants.{Packet, Field, Rule, Mid, Length, At, Mask, Stale, Fails, Sequence, Event, Report, When, Or, Xor, And, Not, FieldKind, State, Level, Name, Number, Text, Equals, Semicolon, Open, Close, Compare}

-- The program's token as one of the model: its bytes with their place.
abbrev pub token_of : Token → model.Token
token_of t = record { at = t.at; text = t.text.now }

-- The program's tokens as tokens of the model, in order.
abbrev pub tokens_of : List Token → List model.Token
tokens_of = map token_of

-- The text is one of this token kind, and has the kind's value if it has one.
abbrev pub IsKind : TokenKind → List ℕ → Type 0
IsKind Packet text = text ≡ codes "packet"
IsKind Field text = text ≡ codes "field"
IsKind Rule text = text ≡ codes "rule"
IsKind Mid text = text ≡ codes "mid"
IsKind Length text = text ≡ codes "length"
IsKind At text = text ≡ codes "at"
IsKind Mask text = text ≡ codes "mask"
IsKind Stale text = text ≡ codes "stale"
IsKind Fails text = text ≡ codes "fails"
IsKind Sequence text = text ≡ codes "sequence"
IsKind Event text = text ≡ codes "event"
IsKind Report text = text ≡ codes "report"
IsKind When text = text ≡ codes "when"
IsKind Or text = text ≡ codes "or"
IsKind Xor text = text ≡ codes "xor"
IsKind And text = text ≡ codes "and"
IsKind Not text = text ≡ codes "not"
IsKind (FieldKind kind) text = field_type text ≡ Some kind
IsKind (State mode) text = state text ≡ Some mode
IsKind (Level kind) text = event_kind text ≡ Some kind
IsKind Name text = IsTrue (is_name text)
IsKind (Number value) text = number text ≡ Some value
IsKind Text text = IsTrue (is_string text)
IsKind Equals text = text ≡ codes "="
IsKind Semicolon text = text ≡ codes ";"
IsKind Open text = text ≡ codes "("
IsKind Close text = text ≡ codes ")"
IsKind (Compare op) text = comparison text ≡ Some op

-- The token's text is one of its kind.
abbrev pub HasItsKind : Token → Type 0
HasItsKind t = IsKind t.kind t.text.now
