-- The compiled table files of a run's texts, and the refusal of a text.
use Rattle.std.specs.Prelude.{◌≡◌, ℕ, List, [], map, take, slice_get, Some, ⊤}
use Rattle.std.specs.Option.{option_map_or}
use Rattle.std.specs.Borrow.{Bor}
use Rattle.std.specs.List.{AllZip}
use Rattle.lc_model.specs.declared.kind.Kind.{Kind}
use Rattle.lc_model.specs.declared.kind.Kind.TheVariants.{Wdt, Adt}
use Rattle.lc_model.specs.Rule.{NamedRule}
use Rattle.lc_model.specs.Text.Reading.{TextRefusal}
use Rattle.lc_model.specs.Tables.Compiling.{Compiles, IsRefused}
use Rattle.lc_model.specs.Tables.HalvesAndBytes.{Text}
use Rattle.lc_model.specs.Tables.InForce.{limits}
use Rattle.lc_model.specs.Host.Promise.{AreCompiled}
use Rattle.rpn_compiler.specs.declared.error.CompileError.{CompileError}
use Rattle.rpn_compiler.specs.declared.error.CompileError.TheVariants as compiler
use Rattle.rpn_compiler.specs.declared.files.TablePair.{TablePair}
use Rattle.rpn_compiler.specs.Fault.{refusal_of}
use Rattle.rpn_compiler.specs.Naming.{NamesTheNumberIn}
use Rattle.rpn_compiler.specs.Pair.{AreTables}
use Rattle.flight_core.specs.declared.error.RunError.{RunError}
use Rattle.flight_core.specs.declared.error.RunError.TheVariants.{Compile, Memory}

-- The bytes of the texts that the caller passed.
abbrev pub sources_of : List (Bor (List ℕ)) → List (List ℕ)
sources_of texts = map (λ text. text.now) texts

-- ---- files

-- The pair's file for this table.
abbrev pub file_of : Kind → TablePair → List ℕ
file_of Wdt pair = pair.wdt.items
file_of Adt pair = pair.adt.items

-- The compiled file for this table of text `number`.
abbrev pub file_in : List TablePair → Kind → ℕ → List ℕ
file_in pairs kind number = option_map_or (file_of kind) (slice_get pairs number) []

-- The text compiles, and `pair` has its two files.
pub record IsCompiled (source : List ℕ) (pair : TablePair) : Type 0 where
  pub rules : List NamedRule
  pub compiles : Compiles limits source rules
  pub tables : AreTables source rules pair

-- Every text compiles to the pair at its place.
abbrev pub AreAllCompiled : List (List ℕ) → List TablePair → Type 0
AreAllCompiled sources pairs = AllZip IsCompiled sources pairs

-- ---- refusals

-- The run's error if the compiler refused text `number`.
abbrev pub refusal_for : ℕ → CompileError → RunError
refusal_for number compiler.Memory = Memory
refusal_for number error = Compile number error

-- Text `number` is the first that does not compile; `error` is its refusal.
pub record IsFirstRefused (sources : List (List ℕ)) (number : ℕ) (error : CompileError) : Type 0 where
  pub texts : List Text
  pub before : AreCompiled limits (take number sources) texts
  pub source : List ℕ
  pub there : slice_get sources number ≡ Some source
  pub why : TextRefusal
  pub is : refusal_of error ≡ Some why
  pub refused : IsRefused limits source why
  pub named : NamesTheNumberIn source error

-- The error is the refusal of the first text that does not compile, or lack of memory.
abbrev pub IsNotCompiled : List (List ℕ) → RunError → Type 0
IsNotCompiled sources (Compile number error) = IsFirstRefused sources number error
IsNotCompiled sources Memory = ⊤
IsNotCompiled sources other = ⊥

-- If the error is 28, its place is that of a number of the text that is out of range.
abbrev pub NamesTheNumber : List (List ℕ) → RunError → Type 0
NamesTheNumber sources (Compile number error) = (source : List ℕ) × (slice_get sources number ≡ Some source) × NamesTheNumberIn source error
NamesTheNumber sources error = ⊤
