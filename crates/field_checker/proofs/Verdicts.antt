-- What the first fault says of all.
use Rattle.std.proofs.Common.{◌≡◌, refl, sym, ◌∙◌, ap, inr, ℕ, List, [], ◌∷◌, Option, Some, None}
use Rattle.std.specs.Prelude.{option_map}
use Rattle.lc_model.specs.Text.Syntax.{Item}
use Rattle.lc_model.specs.Text.Meaning.{TextFault, faults, first_fault}
use Rattle.field_checker.specs.declared.error.CheckError.{CheckError}
use Rattle.field_checker.specs.declared.fault.Check.{Check}
use Rattle.field_checker.specs.declared.fault.Check.TheVariants as check
use Rattle.field_checker.specs.declared.fault.CheckFault.{CheckFault}
use Rattle.field_checker.specs.Fault.{IsFaultUnlessMemory, error_of, fault_of, text_fault_of}

-- the error of a fault is that fault
pub error_says : (fault : CheckFault) → text_fault_of (error_of fault) ≡ Some (fault_of fault)
error_says fault = of_check fault.check fault.at
  where
    of_check : (check : Check) (at : ℕ) → text_fault_of (error_of (record { check = check; at = at })) ≡ Some (fault_of (record { check = check; at = at }))
    of_check check.DuplicateName at = refl
    of_check check.UnknownName at = refl
    of_check check.MidRange at = refl
    of_check check.ReservedMid at = refl
    of_check check.FieldOutside at = refl
    of_check check.MaskRange at = refl
    of_check check.ConstRange at = refl
    of_check check.NumberRange at = refl
    of_check check.LengthRange at = refl

-- there is a first fault where there are faults
pub none_first : (fs : List TextFault) → first_fault fs ≡ None → fs ≡ []
none_first [] e = refl
none_first (f ∷ fs) e = absurd (cc e)

-- the first fault that was met of the items of a file
pub met : (items whole : List Item) (first answer : Option CheckFault) → items ≡ whole → option_map fault_of first ≡ first_fault (faults items) →
    first ≡ answer → first_fault (faults whole) ≡ option_map fault_of answer
met items whole first answer same is e = sym (ap (λ items. first_fault (faults items)) same) ∙ (sym is ∙ ap (option_map fault_of) e)

-- an error that answers this fault is the one that is expected
pub answered : (expected : Option TextFault) (fault : CheckFault) (error : CheckError) → error ≡ error_of fault → expected ≡ Some (fault_of fault) →
    IsFaultUnlessMemory expected error
answered expected fault error is e = inr (ap text_fault_of is ∙ (error_says fault ∙ sym e))
