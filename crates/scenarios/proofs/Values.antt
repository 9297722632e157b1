-- The values of a ramp, one after the other.
use Rattle.std.proofs.Common.{◌≡◌, refl, sym, ◌∙◌, ap, ℕ, zero, suc, ◌+◌, ◌<◌, ◌≤◌, ℤ, Result, Ok, Err, arith}
use Rattle.scenarios.specs.declared.error.Reason.{Reason}
use Rattle.scenarios.specs.declared.error.LineRefusal.{LineRefusal}
use Rattle.scenarios.specs.declared.error.LineRefusal.TheVariants as fault
use Rattle.scenarios.specs.declared.ramp.Ramp.{Ramp}
use Rattle.scenarios.specs.Error.{IsRefused, ◌>>=◌}
use Rattle.scenarios.specs.Ramp.{next_value, value_said, values_said}
use Rattle.scenarios.specs.Said.{Said}

-- so many values are left: what they say is what all say
pub record Running (n : ℕ) (ramp : Ramp) (whole : Result Said Reason) (counter end : ℕ) (z : ℤ) (said : Said) : Type 0 where
  pub most : ℕ
  pub spare : counter + most ≡ end
  pub says : values_said most n ramp z said ≡ whole

pub begun : (n : ℕ) (ramp : Ramp) (count : ℕ) (z : ℤ) (said : Said) → Running n ramp (values_said count n ramp z said) 0 count z said
begun n ramp count z said = record { most = count; spare = omega arith; says = refl }

at_zero : (n : ℕ) (ramp : Ramp) (z : ℤ) (said : Said) → values_said zero n ramp z said ≡ Ok said
unfolding values_said
at_zero n ramp z said = refl

at_more : (n : ℕ) (ramp : Ramp) (count : ℕ) (z : ℤ) (said : Said) →
    values_said (suc count) n ramp z said ≡ (value_said n ramp z said >>= values_said count n ramp (next_value ramp z))
unfolding values_said
at_more n ramp count z said = refl

module _ (n : ℕ) (ramp : Ramp) (whole : Result Said Reason) (counter end : ℕ) (z : ℤ) (said : Said) (so_far : Running n ramp whole counter end z said) where
  pub over : end ≤ counter → whole ≡ Ok said
  over past = by_most so_far.most so_far.spare so_far.says
    where
      by_most : (most : ℕ) → counter + most ≡ end → values_said most n ramp z said ≡ whole → whole ≡ Ok said
      by_most zero spare says = sym says ∙ at_zero n ramp z said
      by_most (suc most) spare says = absurd (omega (arith, spare, past))

  module _ (within : counter < end) where
    -- a value that is refused
    refused_for : (reason : Reason) → value_said n ramp z said ≡ Err reason → whole ≡ Err reason
    refused_for reason is = by_most so_far.most so_far.spare so_far.says
      where
        by_most : (most : ℕ) → counter + most ≡ end → values_said most n ramp z said ≡ whole → whole ≡ Err reason
        by_most zero spare says = absurd (omega (arith, spare, within))
        by_most (suc most) spare says =
            sym says ∙ at_more n ramp most z said ∙ ap (λ (r : Result Said Reason). r >>= values_said most n ramp (next_value ramp z)) is

    pub refused : (error : LineRefusal) → IsRefused (value_said n ramp z said) error → IsRefused whole error
    refused (fault.Line reason) is = refused_for reason is
    refused fault.Memory is = tt

    -- one that is said
    pub one_more : (after : Said) → value_said n ramp z said ≡ Ok after → Running n ramp whole (counter + 1) end (next_value ramp z) after
    one_more after is = by_most so_far.most so_far.spare so_far.says
      where
        by_most : (most : ℕ) → counter + most ≡ end → values_said most n ramp z said ≡ whole → Running n ramp whole (counter + 1) end (next_value ramp z) after
        by_most zero spare says = absurd (omega (arith, spare, within))
        by_most (suc most) spare says = record {
          most = most;
          spare = omega (arith, spare);
          says = sym (at_more n ramp most z said ∙ ap (λ (r : Result Said Reason). r >>= values_said most n ramp (next_value ramp z)) is) ∙ says;
        }
