-- The compiler's errors as refusals of a text. This project's own.
use Rattle.std.specs.Prelude.{◌≡◌, ℕ, ◌⊎◌, Option, Some, None, option_map}
use Rattle.lc_model.specs.Text.Reading as model
use Rattle.lc_model.specs.Text.Reading.{ParseFault, TextRefusal, ForText, AtPlace, Unparsed, ForRule, nested_too_deep, unexpected_token}
use Rattle.lc_model.specs.Tables.Compiling.{too_many_watchpoints, too_many_rules, equation_too_long}
use Rattle.rule_lexer.specs.declared.error.LexError.{LexError}
use Rattle.rule_lexer.specs.declared.error.LexError.TheVariants as lexer
use Rattle.rule_parser.specs.declared.error.ParseError.{ParseError}
use Rattle.rule_parser.specs.declared.error.ParseError.TheVariants as parser
use Rattle.rule_parser.specs.What.{class_of_what}
use Rattle.field_checker.specs.declared.error.CheckError.{CheckError}
use Rattle.field_checker.specs.declared.error.CheckError.TheVariants as checker
use Rattle.field_checker.specs.Fault.{text_fault_of}
use Rattle.watch_sharing.specs.declared.error.ShareError.{ShareError}
use Rattle.watch_sharing.specs.declared.error.ShareError.TheVariants as sharing
use Rattle.rpn_compiler.specs.declared.error.CompileError.{CompileError}
use Rattle.rpn_compiler.specs.declared.error.CompileError.TheVariants.{Lex, Parse, Check, TooManyWatchpoints, TooManyRules, EquationTooLong, Memory}

-- ---- the compiler's error for an error of one of its stages

-- The compiler's error for a lexer's error.
abbrev pub error_of_lexer : LexError → CompileError
error_of_lexer lexer.Memory = Memory
error_of_lexer error = Lex error

-- The compiler's error for a parser's error.
abbrev pub error_of_parser : ParseError → CompileError
error_of_parser parser.Memory = Memory
error_of_parser error = Parse error

-- The compiler's error for a checker's error.
abbrev pub error_of_checker : CheckError → CompileError
error_of_checker checker.Memory = Memory
error_of_checker error = Check error

-- The compiler's error for an error of sharing watchpoints.
abbrev pub error_of_sharing : ShareError → CompileError
error_of_sharing sharing.TooManyWatchpoints = TooManyWatchpoints
error_of_sharing sharing.Memory = Memory

-- ---- the refusal of an error; `None` for lack of memory

-- The refusal with this number at this place.
abbrev at_place : (code at : ℕ) → Option TextRefusal
at_place code at = Some (AtPlace (record { code = code; at = at }))

-- The refusal of a lexer's error, 1 to 5.
abbrev refusal_of_lexer : LexError → Option TextRefusal
refusal_of_lexer (lexer.BadByte at) = at_place 1 at
refusal_of_lexer (lexer.BadNumber at) = at_place 2 at
refusal_of_lexer (lexer.NameTooLong at) = at_place 3 at
refusal_of_lexer (lexer.BadString at) = at_place 4 at
refusal_of_lexer lexer.TextTooLong = Some (ForText 5)
refusal_of_lexer lexer.Memory = None

-- The refusal of a parser's error, 11 or 12.
abbrev refusal_of_parser : ParseError → Option TextRefusal
refusal_of_parser (parser.Expected at what) = Some (Unparsed (model.Expected at (class_of_what what)))
refusal_of_parser (parser.TooNested at) = Some (Unparsed (model.TooNested at))
refusal_of_parser parser.Memory = None

-- The refusal of the compiler's error; `None` for lack of memory.
abbrev pub refusal_of : CompileError → Option TextRefusal
refusal_of (Lex error) = refusal_of_lexer error
refusal_of (Parse error) = refusal_of_parser error
refusal_of (Check error) = option_map AtPlace (text_fault_of error)
refusal_of TooManyWatchpoints = Some (ForText too_many_watchpoints)
refusal_of TooManyRules = Some (ForText too_many_rules)
refusal_of (EquationTooLong rule) = Some (ForRule equation_too_long rule)
refusal_of Memory = None

-- The number of a parser's fault.
abbrev code_of_fault : ParseFault → ℕ
code_of_fault (model.Expected at what) = unexpected_token
code_of_fault (model.TooNested at) = nested_too_deep

-- The number of a refusal.
abbrev pub code_of : TextRefusal → ℕ
code_of (ForText code) = code
code_of (AtPlace fault) = fault.code
code_of (Unparsed fault) = code_of_fault fault
code_of (ForRule code rule) = code

-- The error is lack of memory, or a refusal with property `P`.
abbrev pub Refuses : (TextRefusal → Type 0) → CompileError → Type 0
Refuses P error = (error ≡ Memory) ⊎ ((refusal : TextRefusal) × (refusal_of error ≡ Some refusal) × P refusal)
