-- The checker's faults and errors as faults of a text. This project's own.
use Rattle.std.specs.Prelude.{◌≡◌, ℕ, ◌⊎◌, Option, Some, None, option_map}
use Rattle.lc_model.specs.Text.Meaning.{TextFault}
use Rattle.field_checker.specs.declared.fault.Check.{Check}
use Rattle.field_checker.specs.declared.fault.Check.TheVariants as check
use Rattle.field_checker.specs.declared.fault.CheckFault.{CheckFault}
use Rattle.field_checker.specs.declared.error.CheckError.{CheckError}
use Rattle.field_checker.specs.declared.error.CheckError.TheVariants.{DuplicateName, UnknownName, MidRange, ReservedMid, FieldOutside, MaskRange, ConstRange, NumberRange, LengthRange, Memory}

-- The refusal number of each check.
abbrev pub number_of_check : Check → ℕ
number_of_check check.DuplicateName = 21
number_of_check check.UnknownName = 22
number_of_check check.MidRange = 23
number_of_check check.ReservedMid = 24
number_of_check check.FieldOutside = 25
number_of_check check.MaskRange = 26
number_of_check check.ConstRange = 27
number_of_check check.NumberRange = 28
number_of_check check.LengthRange = 29

-- The text's fault for a fault of the program.
abbrev pub fault_of : CheckFault → TextFault
fault_of f = record { code = number_of_check f.check; at = f.at }

-- The checker's error for a fault.
abbrev pub error_of : CheckFault → CheckError
error_of f = answer f.check f.at
  where
    answer : Check → ℕ → CheckError
    answer check.DuplicateName at = DuplicateName at
    answer check.UnknownName at = UnknownName at
    answer check.MidRange at = MidRange at
    answer check.ReservedMid at = ReservedMid at
    answer check.FieldOutside at = FieldOutside at
    answer check.MaskRange at = MaskRange at
    answer check.ConstRange at = ConstRange at
    answer check.NumberRange at = NumberRange at
    answer check.LengthRange at = LengthRange at

-- The text's fault for an error; `None` for lack of memory.
abbrev pub text_fault_of : CheckError → Option TextFault
text_fault_of (DuplicateName at) = Some (record { code = 21; at = at })
text_fault_of (UnknownName at) = Some (record { code = 22; at = at })
text_fault_of (MidRange at) = Some (record { code = 23; at = at })
text_fault_of (ReservedMid at) = Some (record { code = 24; at = at })
text_fault_of (FieldOutside at) = Some (record { code = 25; at = at })
text_fault_of (MaskRange at) = Some (record { code = 26; at = at })
text_fault_of (ConstRange at) = Some (record { code = 27; at = at })
text_fault_of (NumberRange at) = Some (record { code = 28; at = at })
text_fault_of (LengthRange at) = Some (record { code = 29; at = at })
text_fault_of Memory = None

-- The refusal number of an error; `None` for lack of memory.
abbrev pub error_code : CheckError → Option ℕ
error_code error = option_map (λ (fault : TextFault). fault.code) (text_fault_of error)

-- The error is lack of memory, or the expected fault.
abbrev pub IsFaultUnlessMemory : Option TextFault → CheckError → Type 0
IsFaultUnlessMemory expected error = (error ≡ Memory) ⊎ (text_fault_of error ≡ expected)
