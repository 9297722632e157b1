-- An error names the number of its text that is out of its range.
use Rattle.std.proofs.Common.{ℕ, List}
use Rattle.std.specs.Prelude.{Result, Ok, Err, IfErr}
use Rattle.lc_model.specs.Text.Token.{Token, Splits}
use Rattle.lc_model.specs.Text.Syntax.{Item}
use Rattle.lc_model.specs.Text.Reading.{Parses}
use Rattle.rule_lexer.specs.declared.error.LexError.{LexError}
use Rattle.rule_lexer.specs.declared.error.LexError.TheVariants as lexer
use Rattle.rule_parser.specs.declared.error.ParseError.{ParseError}
use Rattle.rule_parser.specs.declared.error.ParseError.TheVariants as parser
use Rattle.field_checker.specs.declared.error.CheckError.{CheckError}
use Rattle.field_checker.specs.declared.error.CheckError.TheVariants as checker
use Rattle.field_checker.specs.Number.{NamesItsNumber}
use Rattle.watch_sharing.specs.declared.error.ShareError.{ShareError}
use Rattle.watch_sharing.specs.declared.error.ShareError.TheVariants as sharing
use Rattle.rpn_compiler.specs.declared.error.CompileError.{CompileError}
use Rattle.rpn_compiler.specs.declared.error.CompileError.TheVariants.{Lex, Parse, Check, TooManyWatchpoints, TooManyRules, EquationTooLong, Memory}
use Rattle.rpn_compiler.specs.Fault.{error_of_lexer, error_of_parser, error_of_checker, error_of_sharing}
use Rattle.rpn_compiler.specs.Naming.{NamesItsNumberIn, NamesTheNumberIn, IsOfTables}

module _ (text : List ℕ) where
  pub of_lexer : (error : LexError) → NamesTheNumberIn text (error_of_lexer error)
  of_lexer (lexer.BadByte at) = tt
  of_lexer (lexer.BadNumber at) = tt
  of_lexer (lexer.NameTooLong at) = tt
  of_lexer (lexer.BadString at) = tt
  of_lexer lexer.TextTooLong = tt
  of_lexer lexer.Memory = tt

  pub of_parser : (error : ParseError) → NamesTheNumberIn text (error_of_parser error)
  of_parser (parser.Expected at what) = tt
  of_parser (parser.TooNested at) = tt
  of_parser parser.Memory = tt

  pub of_tables : (error : CompileError) → IsOfTables error → NamesTheNumberIn text error
  of_tables (Lex error) is = tt
  of_tables (Parse error) is = tt
  of_tables (Check error) is = absurd is
  of_tables TooManyWatchpoints is = tt
  of_tables TooManyRules is = tt
  of_tables (EquationTooLong rule) is = tt
  of_tables Memory is = tt

  pub of_all_tables : {T : Type 0} (r : Result T CompileError) → IfErr r IsOfTables → IfErr r (NamesTheNumberIn text)
  of_all_tables (Ok x) is = is
  of_all_tables (Err error) is = of_tables error is

  module _ (tokens : List Token) (items : List Item) (splits : Splits text tokens) (parses : Parses tokens items) where
    said : (error : CheckError) → NamesItsNumber items error → NamesItsNumberIn text error
    said error names = record { tokens = tokens; items = items; splits = splits; parses = parses; names = names }

    pub of_checker : (error : CheckError) → NamesItsNumber items error → NamesTheNumberIn text (error_of_checker error)
    of_checker checker.Memory names = tt
    of_checker (checker.DuplicateName at) names = said (checker.DuplicateName at) names
    of_checker (checker.UnknownName at) names = said (checker.UnknownName at) names
    of_checker (checker.MidRange at) names = said (checker.MidRange at) names
    of_checker (checker.ReservedMid at) names = said (checker.ReservedMid at) names
    of_checker (checker.FieldOutside at) names = said (checker.FieldOutside at) names
    of_checker (checker.MaskRange at) names = said (checker.MaskRange at) names
    of_checker (checker.ConstRange at) names = said (checker.ConstRange at) names
    of_checker (checker.NumberRange at) names = said (checker.NumberRange at) names
    of_checker (checker.LengthRange at) names = said (checker.LengthRange at) names

-- what is shared is of the tables
pub sharing_is_of_tables : (error : ShareError) → IsOfTables (error_of_sharing error)
sharing_is_of_tables sharing.TooManyWatchpoints = tt
sharing_is_of_tables sharing.Memory = tt
