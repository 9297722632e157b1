-- Comparisons as ranges. The bits of a field with the sign bit inverted have the order of its numbers, so a comparison holds
-- for the bits in a range, or for all others. This project's own.
use Rattle.std.specs.Prelude.{ℕ, ◌+◌, ◌-◌, ◌^◌, ◌%◌, Bool, true, false, nat_le, if◌then◌else◌, ℤ, pos, negsuc}
use Rattle.lc_model.specs.declared.field.FieldType.{FieldType}
use Rattle.lc_model.specs.declared.field.CmpOp.{CmpOp}
use Rattle.lc_model.specs.declared.field.CmpOp.TheVariants.{Less, LessOrEqual, NotEqual, Equal, GreaterOrEqual, Greater}
use Rattle.lc_model.specs.Field.{sign_weight}
use Rattle.limit_engine.specs.declared.field.Range.{Range}

-- A number of the type as bits with the sign bit inverted.
abbrev pub ordered : FieldType → ℤ → ℕ
ordered kind (pos n) = sign_weight kind + n
ordered kind (negsuc n) = sign_weight kind - (n + 1)

-- The range of bits for which the comparison with `end` holds; `flip` takes all others instead.
abbrev pub range_to : CmpOp → ℕ → Range
range_to Less end = record { low = end; span = 4_294_967_295 - end; flip = true }
range_to GreaterOrEqual end = record { low = end; span = 4_294_967_295 - end; flip = false }
range_to LessOrEqual end = record { low = 0; span = end; flip = false }
range_to Greater end = record { low = 0; span = end; flip = true }
range_to Equal end = record { low = end; span = 0; flip = false }
range_to NotEqual end = record { low = end; span = 0; flip = true }

-- The range of a comparison with this number of the type.
abbrev pub range_of : FieldType → CmpOp → ℤ → Range
range_of kind op value = range_to op (ordered kind value)

-- The test `within`, negated if the flag is set.
abbrev pub turned : Bool → Bool → Bool
turned true within = if within then false else true
turned false within = within

-- Whether the comparison holds for these bits.
abbrev pub holds_in : Range → ℕ → Bool
holds_in range bits = turned range.flip (nat_le ((bits + (2 ^ 32 - range.low)) % 2 ^ 32) range.span)
