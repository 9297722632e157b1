-- Numbers on the same side of a comparison's thresholds compare alike.
use Rattle.std.proofs.Common.{◌≡◌, arith}
use Rattle.std.specs.Prelude.{ℤ, int_lt, int_le}
use Rattle.std.proofs.lemmas.Int.{ints}
use Rattle.lc_model.specs.declared.field.CmpOp.{CmpOp}
use Rattle.lc_model.specs.declared.field.CmpOp.TheVariants.{Less, LessOrEqual, NotEqual, Equal, GreaterOrEqual, Greater}
use Rattle.lc_model.specs.Field.{compares}

-- by whether the number that is compared with is reached, and passed
pub same_side : (op : CmpOp) (x y c : ℤ) → int_le c x ≡ int_le c y → int_lt c x ≡ int_lt c y → compares op x c ≡ compares op y c
same_side Less x y c reached passed = grind (arith, ints)
same_side LessOrEqual x y c reached passed = grind (arith, ints)
same_side NotEqual x y c reached passed = grind (arith, ints)
same_side Equal x y c reached passed = grind (arith, ints)
same_side GreaterOrEqual x y c reached passed = reached
same_side Greater x y c reached passed = passed
