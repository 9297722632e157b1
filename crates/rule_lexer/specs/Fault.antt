-- The lexer's errors as faults of a text. This project's own.
use Rattle.std.specs.Prelude.{◌≡◌, ℕ, ◌≤◌, ◌<◌, ◌⊎◌, List, length, Option, Some, None}
use Rattle.lc_model.specs.Text.Token.{longest_text, HasBadToken, begins_nothing, not_a_number, overlong_name, not_a_string, overlong_text}
use Rattle.rule_lexer.specs.declared.error.LexError.{LexError}
use Rattle.rule_lexer.specs.declared.error.LexError.TheVariants.{BadByte, BadNumber, NameTooLong, BadString, TextTooLong, Memory}

-- The refusal number of an error, 1 to 5; `None` for lack of memory.
abbrev pub error_code : LexError → Option ℕ
error_code (BadByte at) = Some begins_nothing
error_code (BadNumber at) = Some not_a_number
error_code (NameTooLong at) = Some overlong_name
error_code (BadString at) = Some not_a_string
error_code TextTooLong = Some overlong_text
error_code Memory = None

-- The text is not too long, and its first bad token, at this place, has this refusal number.
abbrev HasFault : List ℕ → (code at : ℕ) → Type 0
HasFault text code at = (length text ≤ longest_text) × HasBadToken text code at

-- The error is the text's fault; lack of memory is none.
abbrev pub IsFault : List ℕ → LexError → Type 0
IsFault text (BadByte at) = HasFault text begins_nothing at
IsFault text (BadNumber at) = HasFault text not_a_number at
IsFault text (NameTooLong at) = HasFault text overlong_name at
IsFault text (BadString at) = HasFault text not_a_string at
IsFault text TextTooLong = longest_text < length text
IsFault text Memory = ⊥

-- The error is lack of memory, or the text's fault.
abbrev pub IsFaultUnlessMemory : List ℕ → LexError → Type 0
IsFaultUnlessMemory text error = (error ≡ Memory) ⊎ IsFault text error

-- The error is lack of memory, or the expected one.
abbrev pub IsUnlessMemory : LexError → LexError → Type 0
IsUnlessMemory expected error = (error ≡ Memory) ⊎ (error ≡ expected)
