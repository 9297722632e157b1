-- The first zero byte of a field.
use Rattle.std.proofs.Common.{◌≡◌, sym, refl, ℕ, Bool, true, false, ◌==◌, List, length, slice_index, arith}
use Rattle.std.specs.List.{position_or_len}
use Rattle.std.proofs.lemmas.List.Sums.{position_or_len_is}
use Rattle.memchr.specs.Find.{NoneBefore, Nowhere, Passes, is_byte}

not_true : (b : Bool) → ¬ (b ≡ true) → b ≡ false
not_true true not = absurd (not refl)
not_true false not = refl

pub first_zero : (hay : List ℕ) (k : ℕ) → NoneBefore (Passes (is_byte 0) hay) 0 (length hay) k → Passes (is_byte 0) hay k → k ≡ position_or_len (λ b. b == 0) hay
first_zero hay k found zero =
    sym (position_or_len_is (λ b. b == 0) hay k 0 (omega (arith, found.high)) (λ n less. not_true (slice_index hay n == 0) (found.before n (omega arith) less)) (λ within. zero))

pub no_zero : (hay : List ℕ) → Nowhere (Passes (is_byte 0) hay) 0 (length hay) → length hay ≡ position_or_len (λ b. b == 0) hay
no_zero hay none =
    sym (position_or_len_is (λ b. b == 0) hay (length hay) 0 (omega arith) (λ n less. not_true (slice_index hay n == 0) (none n (omega arith) less)) (λ within. absurd (omega (arith, within))))
