-- Eight digits fit 32 bits.
use Rattle.scenarios.proofs.Digits.{small, small_sum}
use Rattle.scenarios.proofs.number.hexadecimal.Goals as goal

pub overflow_mul-number : goal.overflow_mul-number
overflow_mul-number c = small c.loop-byte.number c.loop-byte.byte-index _ c.loop-byte.invariant.below c.loop-byte-test.true c.if-digits-gt-MOST_DIGITS.false

pub overflow_add-number : goal.overflow_add-number
overflow_add-number c = small_sum c.loop-byte.number c.loop-byte.byte-index _ c.digit_value.result c.loop-byte.invariant.below c.loop-byte-test.true c.if-digits-gt-MOST_DIGITS.false c.digit_value.ensures.below
