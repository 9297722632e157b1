-- Numbers of so many decimal digits.
use Rattle.std.proofs.Common.{◌≡◌, ℕ, suc, ◌+◌, ◌*◌, ◌<◌, ◌≤◌, ◌^◌, arith, lit<}
use Rattle.std.proofs.Math.Nat.{pow-le-pow_right, pow-succ'}

pub fewer_digits : (n few most : ℕ) → few ≤ most → n < 10 ^ few → n < 10 ^ most
fewer_digits n few most less below = let bound : 10 ^ few ≤ 10 ^ most = pow-le-pow_right (lit< tt) less in omega (arith, bound, below)

-- a digit more
pub one_digit_more : (n digit count most : ℕ) → n < 10 ^ count → digit ≤ 9 → count < most → most ≤ 19 → n * 10 + digit < 2 ^ 64
one_digit_more n digit count most below small less few =
    let more : 10 ^ suc count ≡ 10 * 10 ^ count = pow-succ' 10 count in
    let room : suc count ≤ 19 = omega (arith, less, few) in
    let bound : 10 ^ suc count ≤ 10 ^ 19 = pow-le-pow_right (lit< tt) room in
    let top : 10 ^ 19 < 2 ^ 64 = lit< tt in
    omega (arith, below, small, more, bound, top)
