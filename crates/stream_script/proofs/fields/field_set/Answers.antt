-- A number of the type fits 32 bits.
use Rattle.std.proofs.Common.{◌≡◌, true, subst, arith, ℤ}
use Rattle.std.proofs.lemmas.Int.{ints}
use Rattle.lc_model.specs.Tables.Image.{fits_32_bits}
use Rattle.lc_model.proofs.Tables.NumbersIn32Bits.{in_type_fits}
use Rattle.stream_script.proofs.fields.field_set.Goals as goal
use mir.Syntax.{w64}
use mir.Val.{to_z, of_z}

pub bits_of-requires : goal.bits_of-requires
bits_of-requires c =
    let same : c.in_ok-value.value ≡ to_z w64 (of_z w64 c.in_ok-value.value) = omega (arith, ints) in
    subst (λ (z : ℤ). fits_32_bits c.in_ok-kind.kind z ≡ true) same (in_type_fits c.in_ok-kind.kind c.in_ok-value.value c.in_ok-value.ensures.fits)
