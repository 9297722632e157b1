-- The parser's errors as faults of the grammar. This project's own.
use Rattle.std.specs.Prelude.{ℕ, Option, Some, None}
use Rattle.lc_model.specs.Text.Reading as model
use Rattle.lc_model.specs.Text.Reading.{ParseFault, nested_too_deep, unexpected_token}
use Rattle.rule_parser.specs.declared.error.ParseError.{ParseError}
use Rattle.rule_parser.specs.declared.error.ParseError.TheVariants.{Expected, TooNested, Memory}
use Rattle.rule_parser.specs.What.{class_of_what}

-- The refusal number of an error; `None` for lack of memory.
abbrev pub error_code : ParseError → Option ℕ
error_code (Expected at what) = Some unexpected_token
error_code (TooNested at) = Some nested_too_deep
error_code Memory = None

-- The error is lack of memory, or a fault with property `P`.
abbrev pub Refuses : (ParseFault → Type 0) → ParseError → Type 0
Refuses P (Expected at what) = P (model.Expected at (class_of_what what))
Refuses P (TooNested at) = P (model.TooNested at)
Refuses P Memory = Unit {0}
