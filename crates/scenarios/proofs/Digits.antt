-- A number of at most eight hexadecimal digits.
use Rattle.std.proofs.Common.{ℕ, ◌+◌, ◌*◌, ◌^◌, ◌<◌, ◌≤◌, Fits, w64, arith}
use Rattle.std.proofs.Math.Nat.{pow-le-pow_right}

below : (n i size : ℕ) → n < 16 ^ i → i < size → size ≤ 8 → n < 268435456
below n i size few inside most =
    let before : i ≤ 7 = omega (arith, inside, most) in
    let less : 16 ^ i ≤ 16 ^ 7 = pow-le-pow_right (omega arith) before in
    omega (arith, few, less)

pub small : (n i size : ℕ) → n < 16 ^ i → i < size → size ≤ 8 → Fits w64 (n * 16)
small n i size few inside most = let less : n < 268435456 = below n i size few inside most in grind (arith, less)

pub small_sum : (n i size d : ℕ) → n < 16 ^ i → i < size → size ≤ 8 → d < 16 → Fits w64 (n * 16 + d)
small_sum n i size d few inside most digit = let less : n < 268435456 = below n i size few inside most in grind (arith, less, digit)
