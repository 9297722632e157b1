-- What is compiled, in the room of a caller.
use Rattle.std.proofs.Common.{◌≡◌, subst, ℕ, List, Result, Ok, Err}
use Rattle.std.specs.Prelude.{IfOk, IfErr}
use Rattle.lc_model.specs.Rule.{NamedRule}
use Rattle.lc_model.specs.Tables.Compiling.{Compiles, IsRefused}
use Rattle.lc_model.specs.Tables.InForce.{limits}
use Rattle.rpn_compiler.specs.declared.error.CompileError.{CompileError}
use Rattle.rpn_compiler.specs.declared.files.TablePair.{TablePair}
use Rattle.rpn_compiler.specs.Pair.{AreTables}
use Rattle.c_interface.specs.Compiling.{AreFiles, IsUncompiled}
use Rattle.rpn_compiler.specs.Fault.{Refuses, refusal_of}
use Rattle.c_interface.specs.declared.refusal.Refusal.{Refusal}
use Rattle.c_interface.specs.declared.sentence.Sentence.{Sentence}
use Rattle.c_interface.specs.Refusing.{numbers_of}
use Rattle.c_interface.specs.Said.{Says}
use Rattle.c_interface.specs.Words.{text_words}

pub are_files : (text wdt adt : List ℕ) (watchpoints rules : ℕ) (tried : Result TablePair CompileError) (pair : TablePair) → tried ≡ Ok pair
    → IfOk tried (λ pair. (rules : List NamedRule) × Compiles limits text rules × AreTables text rules pair)
    → wdt ≡ pair.wdt.items → adt ≡ pair.adt.items → watchpoints ≡ pair.watchpoints → rules ≡ pair.rules
    → AreFiles text wdt adt watchpoints rules
are_files text wdt adt watchpoints rules tried pair is compiled first second count others =
    let known : (says : List NamedRule) × Compiles limits text says × AreTables text says pair =
    subst (λ r. IfOk r (λ pair. (says : List NamedRule) × Compiles limits text says × AreTables text says pair)) is compiled in
    record {
      says = known.0;
      compiles = known.1;
      pair = pair;
      tables = known.2;
      first = first;
      second = second;
      watchpoints_counted = count;
      rules_counted = others;
    }

pub uncompiled : (text : List ℕ) (told : Refusal) (sentence : Sentence) (tried : Result TablePair CompileError) (error : CompileError) → tried ≡ Err error
    → IfErr tried (Refuses (IsRefused limits text)) → told ≡ numbers_of 0 (refusal_of error) → Says (text_words error) sentence
    → IsUncompiled text told sentence
uncompiled text told sentence tried error is refused numbers says = record {
  error = error;
  refused = subst (λ r. IfErr r (Refuses (IsRefused limits text))) is refused;
  is_told = numbers;
  said = says;
}
