-- What is compiled into the room of a caller. This project's own.
use Rattle.std.specs.Prelude.{◌≡◌, ℕ, List}
use Rattle.lc_model.specs.Rule.{NamedRule}
use Rattle.lc_model.specs.Tables.Compiling.{Compiles, IsRefused}
use Rattle.lc_model.specs.Tables.InForce.{limits}
use Rattle.rpn_compiler.specs.declared.files.TablePair.{TablePair}
use Rattle.rpn_compiler.specs.Pair.{AreTables}
use Rattle.rpn_compiler.specs.Fault.{Refuses, refusal_of}
use Rattle.rpn_compiler.specs.declared.error.CompileError.{CompileError}
use Rattle.c_interface.specs.declared.refusal.Refusal.{Refusal}
use Rattle.c_interface.specs.declared.sentence.Sentence.{Sentence}
use Rattle.c_interface.specs.Refusing.{numbers_of}
use Rattle.c_interface.specs.Said.{Says}
use Rattle.c_interface.specs.Words.{text_words}

-- these are the files of the text's tables, with these numbers of watchpoints and rules
pub record AreFiles (text wdt adt : List ℕ) (watchpoints rules : ℕ) : Type 0 where
  pub says : List NamedRule
  pub compiles : Compiles limits text says
  pub pair : TablePair
  pub tables : AreTables text says pair
  pub first : wdt ≡ pair.wdt.items
  pub second : adt ≡ pair.adt.items
  pub watchpoints_counted : watchpoints ≡ pair.watchpoints
  pub rules_counted : rules ≡ pair.rules

-- the text is refused by this error, or there is no memory: its numbers and its words are given
pub record IsUncompiled (text : List ℕ) (told : Refusal) (sentence : Sentence) : Type 0 where
  pub error : CompileError
  pub refused : Refuses (IsRefused limits text) error
  pub is_told : told ≡ numbers_of 0 (refusal_of error)
  pub said : Says (text_words error) sentence
