-- The reason for a text's fault, for a message to its author. This project's own.
use Rattle.std.specs.Prelude.{ℕ, ◌+◌, ◌==◌, List, take, drop, slice_get, Option, Some, None, is_some, if◌then◌else◌}
use Rattle.std.specs.List.{prefix_len}
use Rattle.lc_model.specs.Text.Token.{is_text_byte, is_word_byte, line_feed, magnitude, magnitude_text, quote}
use Rattle.rule_lexer.specs.declared.error.LexError.{LexError}
use Rattle.rule_lexer.specs.declared.error.LexError.TheVariants as error
use Rattle.rule_lexer.specs.declared.reason.LexReason.{LexReason}
use Rattle.rule_lexer.specs.declared.reason.LexReason.TheVariants.{NoToken, NotANumber, NumberTooLarge, NameTooLong, Unclosed, StringTooLong, ForbiddenByte, TextTooLong, Memory}

-- The bad number at this place, without its sign: its letters, digits and `_`.
abbrev pub digits_at : List ℕ → ℕ → List ℕ
digits_at text at =
    let digits : List ℕ = magnitude_text (drop at text) in take (prefix_len is_word_byte digits) digits

-- Why the number at this place is bad: it is too large, or it does not have the form of a number.
abbrev pub number_reason : List ℕ → ℕ → LexReason
number_reason text at = if is_some (magnitude (digits_at text at)) then NumberTooLarge at else NotANumber at

-- Why the string whose first quote is at `at` is bad, by the byte that follows its `inside` valid bytes: it is too long, it is
-- not closed, or it has a forbidden byte.
abbrev pub string_reason : (at inside : ℕ) → Option ℕ → LexReason
string_reason at inside None = Unclosed at
string_reason at inside (Some byte) =
    if byte == quote then StringTooLong at else if byte == line_feed then Unclosed at else ForbiddenByte (at + 1 + inside)

-- Why the string whose first quote is at this place is bad.
abbrev pub string_reason_at : List ℕ → ℕ → LexReason
string_reason_at text at =
    let rest : List ℕ = drop (at + 1) text in string_reason at (prefix_len is_text_byte rest) (slice_get rest (prefix_len is_text_byte rest))

-- The reason for the lexer's error.
abbrev pub reason_of : LexError → List ℕ → LexReason
reason_of (error.BadByte at) text = NoToken at
reason_of (error.BadNumber at) text = number_reason text at
reason_of (error.NameTooLong at) text = NameTooLong at
reason_of (error.BadString at) text = string_reason_at text at
reason_of error.TextTooLong text = TextTooLong
reason_of error.Memory text = Memory
