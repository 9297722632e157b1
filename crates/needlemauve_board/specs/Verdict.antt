-- The verdict on a table file, in numbers for C. This project's own.
use Rattle.std.specs.Prelude.{ℕ, ◌==◌, if◌then◌else◌, List, Option, Some, None, Result, Ok, Err}
use Rattle.lc_model.specs.declared.kind.Kind.{Kind}
use Rattle.lc_model.specs.declared.kind.Kind.TheVariants.{Wdt, Adt}
use Rattle.lc_model.specs.Tables.File.{TableFile, opened}
use Rattle.lc_model.specs.Tables.Image.{ImageFault, fault_of}
use Rattle.lc_model.specs.Tables.InForce.{layouts}
use Rattle.needlemauve_board.specs.declared.verdict.Verdict.{Verdict}

-- the kind of the table with this number
abbrev pub kind_of : ℕ → Option Kind
kind_of number = if number == 1 then Some Wdt else if number == 2 then Some Adt else None

-- a verdict without an entry
abbrev pub of_all : ℕ → Verdict
of_all code = record { code = code; entry = 65_535 }

-- an image without a fault is sound
abbrev pub verdict_of_fault : Option ImageFault → Verdict
verdict_of_fault None = of_all 0
verdict_of_fault (Some fault) = record { code = fault.code; entry = fault.entry }

abbrev pub verdict_of_image : Kind → List ℕ → Verdict
verdict_of_image kind image = verdict_of_fault (fault_of layouts kind image)

-- a file that does not open has the fault of its headers
abbrev pub verdict_of_opened : Kind → Result TableFile ℕ → Verdict
verdict_of_opened kind (Ok file) = verdict_of_image kind file.image
verdict_of_opened kind (Err code) = of_all code

abbrev pub verdict : Kind → List ℕ → Verdict
verdict kind file = verdict_of_opened kind (opened file)

-- the code for a table number that no table has
abbrev pub no_table : ℕ
no_table = 251

abbrev pub verdict_of_kind : List ℕ → Option Kind → Verdict
verdict_of_kind file None = of_all no_table
verdict_of_kind file (Some kind) = verdict kind file

abbrev pub verdict_of_number : ℕ → List ℕ → Verdict
verdict_of_number number file = verdict_of_kind file (kind_of number)
