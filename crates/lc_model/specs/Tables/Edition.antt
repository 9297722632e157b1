-- What an edition of the compiler fixes: layouts, limits, and the order of operands. This project's own.
use Rattle.std.specs.Prelude.{◌≡◌, ℕ, List, slice_get, Some}
use Rattle.lc_model.specs.declared.kind.Kind.{Kind}
use Rattle.lc_model.specs.declared.kind.Kind.TheVariants.{Wdt, Adt}
use Rattle.lc_model.specs.Condition.{Condition}
use Rattle.lc_model.specs.Rule.{actions}
use Rattle.lc_model.specs.Tables.Equation.{terms_of}
use Rattle.lc_model.specs.Tables.Compiling.{Limits}
use Rattle.lc_model.specs.Tables.Image.{Layout}
use Rattle.lc_model.specs.Tables.Half.{HasWords, IsFileOfHalf}
use Rattle.lc_model.specs.Tables.HalvesAndBytes.{Text}

-- The layouts that LC accepts (the last of each kind is the compiled one), the limits of rule texts, and the rearrangement of a
-- condition before it is written as words.
pub record Edition : Type 0 where
  pub layouts : List Layout
  pub limits : Limits
  pub arranged : Condition → Condition

-- `file` is what the compiler writes for this table of a text: its half, with the words in the edition's order.
abbrev pub IsCompiledFile : Edition → Kind → List ℕ → Text → Type 0
IsCompiledFile e Wdt file text = IsFileOfHalf e.layouts Wdt file text.source
IsCompiledFile e Adt file text =
    (half : IsFileOfHalf e.layouts Adt file text.source) × HasWords e.arranged (terms_of text.rules) (actions text.rules) half.0

-- `compiled kind number` is the compiled file of each table of each text.
abbrev pub AreCompiledFiles : Edition → List Text → (Kind → ℕ → List ℕ) → Type 0
AreCompiledFiles e texts compiled = (kind : Kind) (number : ℕ) (text : Text) → slice_get texts number ≡ Some text →
    IsCompiledFile e kind (compiled kind number) text
