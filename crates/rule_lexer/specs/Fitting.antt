-- Which kinds of tokens belong to which classes of the grammar. This project's own.
use Rattle.std.specs.Prelude.{ℕ, Bool, true, false, ◌&&◌, IsTrue, List, Option, Some, None, codes, bytes_eq}
use Rattle.std.specs.Option.{option_map_or}
use Rattle.lc_model.specs.declared.field.CmpOp.TheVariants.{Less, LessOrEqual, NotEqual, Equal, GreaterOrEqual, Greater}
use Rattle.lc_model.specs.declared.mode.ApMode.TheVariants.{Active, Passive, Disabled, PermOff}
use Rattle.lc_model.specs.declared.rule.EventKind.TheVariants.{Debug, Information, Error, Critical}
use Rattle.lc_model.specs.Text.Token.{is_word, is_sign}
use Rattle.lc_model.specs.Text.Class as class
use Rattle.lc_model.specs.Text.Class.{Class, is_reserved}
use Rattle.lc_model.specs.Words.{type_word}
use Rattle.rule_lexer.specs.declared.token.TokenKind.{TokenKind}
use Rattle.rule_lexer.specs.declared.token.TokenKind.TheVariants.{Packet, Field, Rule, Mid, Length, At, Mask, Stale, Fails, Sequence, Event, Report, When, Or, Xor, And, Not, FieldKind, State, Level, Name, Number, Text, Equals, Semicolon, Open, Close, Compare}

-- The only text of a token kind; `None` for names, numbers and strings, which have many, and for "permanently off", which no
-- text has.
abbrev pub spelling : TokenKind → Option (List ℕ)
spelling Packet = Some (codes "packet")
spelling Field = Some (codes "field")
spelling Rule = Some (codes "rule")
spelling Mid = Some (codes "mid")
spelling Length = Some (codes "length")
spelling At = Some (codes "at")
spelling Mask = Some (codes "mask")
spelling Stale = Some (codes "stale")
spelling Fails = Some (codes "fails")
spelling Sequence = Some (codes "sequence")
spelling Event = Some (codes "event")
spelling Report = Some (codes "report")
spelling When = Some (codes "when")
spelling Or = Some (codes "or")
spelling Xor = Some (codes "xor")
spelling And = Some (codes "and")
spelling Not = Some (codes "not")
spelling (FieldKind kind) = Some (type_word kind)
spelling (State Active) = Some (codes "active")
spelling (State Passive) = Some (codes "passive")
spelling (State Disabled) = Some (codes "disabled")
spelling (State PermOff) = None
spelling (Level Debug) = Some (codes "debug")
spelling (Level Information) = Some (codes "info")
spelling (Level Error) = Some (codes "error")
spelling (Level Critical) = Some (codes "critical")
spelling Name = None
spelling (Number value) = None
spelling Text = None
spelling Equals = Some (codes "=")
spelling Semicolon = Some (codes ";")
spelling Open = Some (codes "(")
spelling Close = Some (codes ")")
spelling (Compare Less) = Some (codes "<")
spelling (Compare LessOrEqual) = Some (codes "<=")
spelling (Compare NotEqual) = Some (codes "!=")
spelling (Compare Equal) = Some (codes "==")
spelling (Compare GreaterOrEqual) = Some (codes ">=")
spelling (Compare Greater) = Some (codes ">")

-- Whether tokens of this kind belong to the class.
abbrev pub kind_fits : Class → TokenKind → Bool
kind_fits class.Item Packet = true
kind_fits class.Item Field = true
kind_fits class.Item Rule = true
kind_fits class.Item kind = false
kind_fits class.Name Name = true
kind_fits class.Name kind = false
kind_fits class.Number (Number value) = true
kind_fits class.Number kind = false
kind_fits class.Text Text = true
kind_fits class.Text kind = false
kind_fits class.FieldKind (FieldKind type) = true
kind_fits class.FieldKind kind = false
kind_fits class.State (State mode) = true
kind_fits class.State kind = false
kind_fits class.Level (Level level) = true
kind_fits class.Level kind = false
kind_fits class.Operand Not = true
kind_fits class.Operand Open = true
kind_fits class.Operand Name = true
kind_fits class.Operand kind = false
kind_fits class.Compare (Compare op) = true
kind_fits class.Compare kind = false
kind_fits (class.Word letters) kind = option_map_or (λ text. is_word text && bytes_eq letters text) (spelling kind) false
kind_fits (class.Sign letters) kind = option_map_or (λ text. is_sign text && bytes_eq letters text) (spelling kind) false

-- The class is one of the grammar: if it is a word, the word is reserved.
abbrev pub IsOfGrammar : Class → Type 0
IsOfGrammar (class.Word letters) = IsTrue (is_reserved letters)
IsOfGrammar other = Unit {0}
