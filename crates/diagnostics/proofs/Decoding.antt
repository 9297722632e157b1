-- What is decoded of some bytes is among them.
use Rattle.std.proofs.Common.{◌≡◌, ◌<◌, ◌≤◌, ◌==◌, ℕ, Bool, true, false, cond, nat_lt, List, length, slice_index, refl, arith}
use Rattle.std.specs.Prelude.{Some}
use Rattle.bstr.specs.Utf8.{Decoded, decoded, decoded_by, second, continues, good, bad, code_of_2, code_of_3, code_of_4}

-- what is decoded as a character has some bytes, and at most so many
abbrev pub IsWithin : ℕ → Decoded → Type 0
IsWithin n d = (c : ℕ) → d.char ≡ Some c → (0 < d.size) × (d.size ≤ n)

nothing : (n k : ℕ) → IsWithin n (bad k)
nothing n k c e = absurd (cc)

something : (n c k : ℕ) → 0 < k → k ≤ n → IsWithin n (good c k)
something n c k positive within d e = (positive, within)

by_test : (n : ℕ) (test : Bool) (x y : Decoded) → (test ≡ true → IsWithin n x) → (test ≡ false → IsWithin n y)
    → IsWithin n (cond test x y)
by_test n true x y holds fails = holds refl
by_test n false x y holds fails = fails refl

within_by : (n b c d e : ℕ) → IsWithin n (decoded_by n b c d e)
within_by n b c d e =
    by_test n (n == 0) _ _ (λ _. nothing n 0) (λ some.
    by_test n (nat_lt b 0x80) _ _ (λ _. something n b 1 (omega arith) (grind arith)) (λ _.
    by_test n (nat_lt b 0xC2) _ _ (λ _. nothing n 1) (λ _.
    by_test n (nat_lt 0xF4 b) _ _ (λ _. nothing n 1) (λ _.
    by_test n (nat_lt n 2) _ _ (λ _. nothing n 1) (λ two.
    by_test n (second b c) _ _ (λ _.
    by_test n (nat_lt b 0xE0) _ _ (λ _. something n (code_of_2 b c) 2 (omega arith) (grind arith)) (λ _.
    by_test n (nat_lt n 3) _ _ (λ _. nothing n 2) (λ three.
    by_test n (continues d) _ _ (λ _.
    by_test n (nat_lt b 0xF0) _ _ (λ _. something n (code_of_3 b c d) 3 (omega arith) (grind arith)) (λ _.
    by_test n (nat_lt n 4) _ _ (λ _. nothing n 3) (λ four.
    by_test n (continues e) _ _ (λ _. something n (code_of_4 b c d e) 4 (omega arith) (grind arith)) (λ _. nothing n 3))))
    (λ _. nothing n 2))))
    (λ _. nothing n 1))))))

pub within_decoded : (bytes : List ℕ) → IsWithin (length bytes) (decoded bytes)
within_decoded bytes = within_by (length bytes) (slice_index bytes 0) (slice_index bytes 1) (slice_index bytes 2) (slice_index bytes 3)
