-- The digits so far leave room for one more.
use Rattle.std.proofs.Common.{arith}
use Rattle.text_lines.proofs.Digits.{fewer_digits, one_digit_more}
use Rattle.text_lines.proofs.number.decimal_number.Goals as goal

pub overflow_mul-number : goal.overflow_mul-number
overflow_mul-number c =
    let fits = one_digit_more c.loop-byte.number 0 c.loop-byte.byte-index c.args.most_digits c.loop-byte.invariant.below (omega arith)
    (omega (arith, c.loop-byte-test.true, c.if-word-most_digits.false)) c.requires in omega (arith, fits)

pub overflow_add-number : goal.overflow_add-number
overflow_add-number c =
    let fits = one_digit_more c.loop-byte.number 9 c.loop-byte.byte-index c.args.most_digits c.loop-byte.invariant.below (omega arith)
    (omega (arith, c.loop-byte-test.true, c.if-word-most_digits.false)) c.requires in grind (arith, fits)

pub returns-clause-below : goal.returns-clause-below
returns-clause-below c =
    fewer_digits c.loop-byte.number c.loop-byte.byte-index c.args.most_digits (omega (arith, c.if-word-most_digits.false, c.loop-byte-test.false)) c.loop-byte.invariant.below
