-- Which number of a text refusal 28 is about. This project's own.
use Rattle.std.specs.Prelude.{ℕ, List, ⊤}
use Rattle.lc_model.specs.Text.Token.{Token, Splits}
use Rattle.lc_model.specs.Text.Syntax.{Item}
use Rattle.lc_model.specs.Text.Reading.{Parses}
use Rattle.field_checker.specs.declared.error.CheckError.{CheckError}
use Rattle.field_checker.specs.Number.{NamesItsNumber}
use Rattle.rpn_compiler.specs.declared.error.CompileError.{CompileError}
use Rattle.rpn_compiler.specs.declared.error.CompileError.TheVariants.{Lex, Parse, Check}

-- If the checker's error is 28, one of the text's items has a number out of range at its place.
pub record NamesItsNumberIn (text : List ℕ) (error : CheckError) : Type 0 where
  pub tokens : List Token
  pub items : List Item
  pub splits : Splits text tokens
  pub parses : Parses tokens items
  pub names : NamesItsNumber items error

-- If the compiler's error is 28, one of the text's items has a number out of range at its place; other errors claim nothing.
abbrev pub NamesTheNumberIn : List ℕ → CompileError → Type 0
NamesTheNumberIn text (Check error) = NamesItsNumberIn text error
NamesTheNumberIn text error = ⊤

-- The error is 31, 41, 42 or lack of memory.
abbrev pub IsOfTables : CompileError → Type 0
IsOfTables (Lex error) = ⊥
IsOfTables (Parse error) = ⊥
IsOfTables (Check error) = ⊥
IsOfTables error = ⊤
