-- The values of `What` (what error 11 expects) as classes of the grammar, and as text. This project's own.
use Rattle.std.specs.Prelude.{codes, ℕ, List, [], ◌++◌}
use Rattle.lc_model.specs.Text.Class as class
use Rattle.lc_model.specs.Text.Class.{Class}
use Rattle.rule_lexer.specs.declared.token.TokenKind.{TokenKind}
use Rattle.rule_lexer.specs.declared.token.TokenKind.TheVariants as kind
use Rattle.rule_parser.specs.declared.what.What.{What}
use Rattle.rule_parser.specs.declared.what.What.TheVariants as what
use Rattle.rule_parser.specs.declared.what.Word.{Word}
use Rattle.rule_parser.specs.declared.what.Word.TheVariants.{Mid, Length, At, Mask, Stale, Fails, Sequence, Event, Report, When}
use Rattle.rule_parser.specs.declared.what.Sign.{Sign}
use Rattle.rule_parser.specs.declared.what.Sign.TheVariants.{Equals, Semicolon, Close}
use Rattle.rule_parser.specs.Front.{class_of}

-- The token kind of each word.
abbrev pub kind_of_word : Word → TokenKind
kind_of_word Mid = kind.Mid
kind_of_word Length = kind.Length
kind_of_word At = kind.At
kind_of_word Mask = kind.Mask
kind_of_word Stale = kind.Stale
kind_of_word Fails = kind.Fails
kind_of_word Sequence = kind.Sequence
kind_of_word Event = kind.Event
kind_of_word Report = kind.Report
kind_of_word When = kind.When

-- The token kind of each sign.
abbrev pub kind_of_sign : Sign → TokenKind
kind_of_sign Equals = kind.Equals
kind_of_sign Semicolon = kind.Semicolon
kind_of_sign Close = kind.Close

-- The class of the grammar for this value.
abbrev pub class_of_what : What → Class
class_of_what what.Item = class.Item
class_of_what what.Name = class.Name
class_of_what what.Number = class.Number
class_of_what what.Text = class.Text
class_of_what what.FieldKind = class.FieldKind
class_of_what what.State = class.State
class_of_what what.Level = class.Level
class_of_what what.Operand = class.Operand
class_of_what what.Compare = class.Compare
class_of_what (what.Word w) = class_of (kind_of_word w)
class_of_what (what.Sign s) = class_of (kind_of_sign s)

-- The letters of a class that is one word or sign; else none.
abbrev pub letters_of : Class → List ℕ
letters_of (class.Word letters) = letters
letters_of (class.Sign letters) = letters
letters_of other = []

-- A word, and a sign, as text.
abbrev pub word_text : Word → List ℕ
word_text w = letters_of (class_of (kind_of_word w))

abbrev pub sign_text : Sign → List ℕ
sign_text s = letters_of (class_of (kind_of_sign s))

-- The words by which a message names the expected class.
abbrev pub what_text : What → List ℕ
what_text what.Item = codes "`packet`, `field` or `rule`"
what_text what.Name = codes "a name"
what_text what.Number = codes "a number"
what_text what.Text = codes "a string"
what_text what.FieldKind = codes "a field type"
what_text what.State = codes "`active`, `passive` or `disabled`"
what_text what.Level = codes "`debug`, `info`, `error` or `critical`"
what_text what.Operand = codes "a name, `not` or `(`"
what_text what.Compare = codes "a comparison"
what_text (what.Word w) = codes "`" ++ word_text w ++ codes "`"
what_text (what.Sign s) = codes "`" ++ sign_text s ++ codes "`"
