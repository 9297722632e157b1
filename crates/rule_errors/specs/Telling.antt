-- What a message says of a refusal: its number, and its place in the text. This project's own.
use Rattle.std.specs.Prelude.{◌≡◌, ℕ, ◌==◌, ◌&&◌, Bool, true, false, if◌then◌else◌, List, [], ◌∷◌, drop, ⊤, Option, Some, None}
use Rattle.lc_model.specs.Text.Reading as model
use Rattle.lc_model.specs.Text.Reading.{ParseFault, TextRefusal, ForText, AtPlace, Unparsed, ForRule}
use Rattle.lc_model.specs.Codes.{table_entries}
use Rattle.lc_model.specs.Tables.Compiling.{too_many_rules}
use Rattle.lc_model.specs.Text.Token.{not_a_string, overlong_text}
use Rattle.rule_lexer.specs.Reason.{string_reason_at}
use Rattle.rule_lexer.specs.declared.reason.LexReason.{LexReason}
use Rattle.rule_lexer.specs.declared.reason.LexReason.TheVariants.{NoToken, NotANumber, NumberTooLarge, NameTooLong, Unclosed, StringTooLong, ForbiddenByte, TextTooLong, Memory}
use Rattle.rule_lexer.specs.declared.error.LexError.{LexError}
use Rattle.rule_lexer.specs.declared.error.LexError.TheVariants as lexer
use Rattle.field_checker.specs.declared.error.CheckError.{CheckError}
use Rattle.field_checker.specs.declared.error.CheckError.TheVariants as checker
use Rattle.rpn_compiler.specs.Fault.{code_of}
use Rattle.diagnostics.specs.Message.{IsAt, IsInside, first_place}
use Rattle.diagnostics.specs.declared.message.Message.{Message}
use Rattle.rule_errors.specs.Places.{IsComparisonBeyond, IsRule}

-- a carriage return in front, right before a line feed or the text's end
abbrev pub ends_line : List ℕ → Bool
ends_line [] = false
ends_line (byte ∷ []) = byte == 13
ends_line (byte ∷ next ∷ rest) = byte == 13 && next == 10

-- the place that a fault of a quoted text is told at: the character that may not stand there, unless that is the carriage return
-- at its line's end; else the quote
abbrev pub place_by_reason : List ℕ → ℕ → LexReason → ℕ
place_by_reason text begin (ForbiddenByte at) = if ends_line (drop at text) then begin else at
place_by_reason text begin reason = begin

abbrev pub string_place : List ℕ → ℕ → ℕ
string_place text at = place_by_reason text at (string_reason_at text at)

-- the place of a fault of the grammar
abbrev place_of_fault : ParseFault → ℕ
place_of_fault (model.Expected at what) = at
place_of_fault (model.TooNested at) = at

-- the message has a place, of which this is true
abbrev pub StandsWhere : (ℕ → Type 0) → Message → Type 0
StandsWhere P message = (at : ℕ) × (first_place message ≡ Some at) × P at

-- the place of a refusal of a whole text: a text that is too long has none; of too many rules that of the name of the first too many, and
-- of too many watchpoints that of the first comparison too many
abbrev pub StandsFor : (code : ℕ) (text : List ℕ) → Message → Type 0
StandsFor code text message =
    either (code == overlong_text) (first_place message ≡ None)
    (either (code == too_many_rules) (StandsWhere (IsRule text table_entries) message)
    (StandsWhere (IsComparisonBeyond text) message))
  where
    either : Bool → Type 0 → Type 0 → Type 0
    either true A B = A
    either false A B = B

-- the message has the place of the refusal; the refusal of a rule has the place of the rule's name
abbrev pub Stands : List ℕ → TextRefusal → Message → Type 0
Stands text (ForText code) message = StandsFor code text message
Stands text (AtPlace fault) message =
    first_place message ≡ Some (if fault.code == not_a_string then string_place text fault.at else fault.at)
Stands text (Unparsed fault) message = first_place message ≡ Some (place_of_fault fault)
Stands text (ForRule code rule) message = StandsWhere (IsRule text rule) message

-- the message has the refusal's number, and its place
abbrev pub Tells : List ℕ → TextRefusal → Message → Type 0
Tells text refusal message = (message.code ≡ code_of refusal) × Stands text refusal message

-- the same of an error that is a refusal
abbrev pub TellsOf : List ℕ → Option TextRefusal → Message → Type 0
TellsOf text None message = ⊤
TellsOf text (Some refusal) message = Tells text refusal message

-- the first message is that of the refusal
abbrev pub BeginsWith : List ℕ → TextRefusal → List Message → Type 0
BeginsWith text refusal [] = ⊥
BeginsWith text refusal (message ∷ messages) = Tells text refusal message

-- each edit changes bytes of the text
abbrev pub AreInside : List ℕ → List Message → Type 0
AreInside text [] = ⊤
AreInside text (message ∷ messages) = IsInside text message.edit × AreInside text messages

-- the message for a token that begins at a place, by its fault
abbrev pub TellsReason : List ℕ → LexReason → ℕ → Message → Type 0
TellsReason text (NoToken at) begin message = IsAt 1 at message
TellsReason text (NotANumber at) begin message = IsAt 2 at message
TellsReason text (NumberTooLarge at) begin message = IsAt 2 at message
TellsReason text (NameTooLong at) begin message = IsAt 3 at message
TellsReason text (Unclosed at) begin message = IsAt 4 at message
TellsReason text (StringTooLong at) begin message = IsAt 4 at message
TellsReason text (ForbiddenByte at) begin message = IsAt 4 (if ends_line (drop at text) then begin else at) message
TellsReason text TextTooLong begin message = (message.code ≡ 5) × (first_place message ≡ None)
TellsReason text Memory begin message = ⊤

-- where the token with an error begins, and the place that an error of items names
abbrev pub place_of : LexError → ℕ
place_of (lexer.BadByte at) = at
place_of (lexer.BadNumber at) = at
place_of (lexer.NameTooLong at) = at
place_of (lexer.BadString at) = at
place_of lexer.TextTooLong = 0
place_of lexer.Memory = 0

abbrev pub place_of_check : CheckError → ℕ
place_of_check (checker.DuplicateName at) = at
place_of_check (checker.UnknownName at) = at
place_of_check (checker.MidRange at) = at
place_of_check (checker.ReservedMid at) = at
place_of_check (checker.FieldOutside at) = at
place_of_check (checker.MaskRange at) = at
place_of_check (checker.ConstRange at) = at
place_of_check (checker.NumberRange at) = at
place_of_check (checker.LengthRange at) = at
place_of_check checker.Memory = 0
