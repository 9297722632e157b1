-- The first fault found so far. This project's own.
use Rattle.std.specs.Prelude.{⊤, List, [], ◌∷◌, Option, Some, None, option_map}
use Rattle.lc_model.specs.Text.Syntax.{Item}
use Rattle.lc_model.specs.Text.Meaning.{TextFault, earlier_of}
use Rattle.field_checker.specs.Fault.{error_of, fault_of}
use Rattle.field_checker.specs.Number.{NamesItsNumber}
use Rattle.field_checker.specs.declared.fault.CheckFault.{CheckFault}
use Rattle.field_checker.specs.declared.faults.Faults.{Faults}

-- The first fault found so far, as a fault of the text.
abbrev pub first_of : Faults → Option TextFault
first_of f = option_map fault_of f.first

-- The first fault after these were added.
unfoldable pub after : Option TextFault → List TextFault → Option TextFault
after first [] = first
after first (f ∷ fs) = after (Some (earlier_of f first)) fs

-- If the fault is 28, its place is that of a number out of range.
abbrev pub NamesItsFault : List Item → Option CheckFault → Type 0
NamesItsFault items None = ⊤
NamesItsFault items (Some fault) = NamesItsNumber items (error_of fault)
