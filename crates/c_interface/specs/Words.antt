-- What is said of each error. This project's own.
use Rattle.std.specs.Prelude.{ℕ, codes, List, ◌++◌}
use Rattle.std.specs.Fmt.{decimal}
use Rattle.rule_lexer.specs.declared.error.LexError.{LexError}
use Rattle.rule_lexer.specs.declared.error.LexError.TheVariants as lexer
use Rattle.rule_parser.specs.declared.error.ParseError.{ParseError}
use Rattle.rule_parser.specs.declared.error.ParseError.TheVariants as parser
use Rattle.rule_parser.specs.What.{what_text}
use Rattle.field_checker.specs.declared.error.CheckError.{CheckError}
use Rattle.field_checker.specs.declared.error.CheckError.TheVariants as checker
use Rattle.rpn_compiler.specs.declared.error.CompileError.{CompileError}
use Rattle.rpn_compiler.specs.declared.error.CompileError.TheVariants as compiler
use Rattle.schedules.specs.declared.error.ScheduleError.{ScheduleError}
use Rattle.schedules.specs.declared.error.ScheduleError.TheVariants as schedule
use Rattle.flight_core.specs.declared.error.RunError.{RunError}
use Rattle.flight_core.specs.declared.error.RunError.TheVariants as run

-- the words of a rule text's or a schedule's error are at most so many bytes
abbrev pub longest_words : ℕ
longest_words = 200

abbrev pub out_of_memory : List ℕ
out_of_memory = codes "out of memory"

abbrev pub lexer_words : LexError → List ℕ
lexer_words (lexer.BadByte at) = codes "no token begins with the byte at " ++ decimal at
lexer_words (lexer.BadNumber at) = codes "no number below 2^32 at " ++ decimal at
lexer_words (lexer.NameTooLong at) = codes "the name at " ++ (decimal at ++ codes " has over 32 bytes")
lexer_words (lexer.BadString at) = codes "no string of at most 31 printable bytes at " ++ decimal at
lexer_words lexer.TextTooLong = codes "the text has over 65,536 bytes"
lexer_words lexer.Memory = out_of_memory

abbrev pub parser_words : ParseError → List ℕ
parser_words (parser.Expected at what) = codes "expected " ++ (what_text what ++ (codes " at " ++ decimal at))
parser_words (parser.TooNested at) = codes "over 64 parentheses and operators in one condition, at " ++ decimal at
parser_words parser.Memory = out_of_memory

abbrev pub checker_words : CheckError → List ℕ
checker_words (checker.DuplicateName at) = codes "the name at " ++ (decimal at ++ codes " is declared before")
checker_words (checker.UnknownName at) = codes "nothing of that kind has the name at " ++ decimal at
checker_words (checker.MidRange at) = codes "the message id at " ++ (decimal at ++ codes " isn't one of telemetry, 0x0800 to 0x0FFF")
checker_words (checker.ReservedMid at) = codes "the message id at " ++ (decimal at ++ codes " is one of the host's own, 0x0808 and 0x08A7")
checker_words (checker.FieldOutside at) = codes "the field at " ++ (decimal at ++ codes " isn't inside its packet")
checker_words (checker.MaskRange at) = codes "the mask at " ++ (decimal at ++ codes " isn't in the field's type: 1 to 0xFF in 8 bits, to 0xFFFF in 16, to 0xFFFFFFFF in 32")
checker_words (checker.ConstRange at) = codes "the number at " ++ (decimal at ++ codes " isn't in the field's type: u8 0 to 255, i8 -128 to 127, u16 0 to 65,535, i16 -32,768 to 32,767, u32 0 to 4,294,967,295, i32 -2,147,483,648 to 2,147,483,647")
checker_words (checker.NumberRange at) = codes "the number at " ++ (decimal at ++ codes " is out of range")
checker_words (checker.LengthRange at) = codes "the packet length at " ++ (decimal at ++ codes " isn't from 12 to 2,048")
checker_words checker.Memory = out_of_memory

-- of a rule text that is refused
abbrev pub text_words : CompileError → List ℕ
text_words (compiler.Lex error) = lexer_words error
text_words (compiler.Parse error) = parser_words error
text_words (compiler.Check error) = checker_words error
text_words compiler.TooManyWatchpoints = codes "the rules mention over 176 watchpoints"
text_words compiler.TooManyRules = codes "there are over 176 rules"
text_words (compiler.EquationTooLong rule) = codes "the equation of rule " ++ (decimal rule ++ codes ", counted from 0, has over 32 words")
text_words compiler.Memory = out_of_memory

-- of a text that says no schedule
abbrev pub schedule_words : ScheduleError → List ℕ
schedule_words (schedule.BadLine n) = codes "line " ++ (decimal n ++ codes " is no line of a schedule")
schedule_words (schedule.TooManySlots n) = codes "line " ++ (decimal n ++ codes " asks for over 64 slots")
schedule_words (schedule.TooManyEntries n) = codes "line " ++ (decimal n ++ codes " has the ninth entry of its slot")
schedule_words schedule.Memory = out_of_memory

-- of a run that ended before the end of its stream
abbrev pub run_words : RunError → List ℕ
run_words (run.Compile text error) = codes "text " ++ (decimal text ++ (codes ": " ++ text_words error))
run_words (run.BadRecord n) = codes "record " ++ (decimal n ++ codes " is none")
run_words (run.Truncated n) = codes "the stream ends inside record " ++ decimal n
run_words run.Read = codes "a read failed"
run_words (run.Write sent) = codes "a write failed behind " ++ (decimal sent ++ codes " bytes")
run_words run.ReadBound = codes "the stream has not ended after as many reads as may be made"
run_words run.Memory = out_of_memory

-- of lengths that don't add up to their texts
abbrev pub unfit_words : List ℕ
unfit_words = codes "the lengths are not those of the texts"
