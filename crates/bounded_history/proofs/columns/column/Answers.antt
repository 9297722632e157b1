use Rattle.std.proofs.Common.{◌≤◌, sym, arith}
use Rattle.std.proofs.Math.Nat.{div-eq_of_lt}
use Rattle.std.proofs.Math.Pow.{pow_mono}
use Rattle.bounded_history.proofs.columns.column.Goals as goal

pub returns-then-doublings-ge64-clause-column : goal.returns-then-doublings-ge64-clause-column
returns-then-doublings-ge64-clause-column c =
    let last : 64 ≤ c.args.doublings = omega (arith, c.if-doublings-ge64.true) in
    sym (div-eq_of_lt (omega (arith, c.ranges.number.fits, pow_mono last)))
