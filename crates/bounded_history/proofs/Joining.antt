-- Joining is associative.
use Rattle.std.proofs.Common.{◌≡◌, ℕ, ◌+◌, ◌-◌, ◌^◌, ℤ, min, arith, bit_or}
use Rattle.std.proofs.lemmas.Nat.Bits.{bit_at_or, same_from_bits}
use Rattle.std.proofs.lemmas.Int.{ints, clamps}
use Rattle.std.specs.Int.{int_min, int_max}
use Rattle.bounded_history.specs.declared.entry.Entry.{Entry}
use Rattle.bounded_history.specs.Changes.{joined}

pub bits_thrice : (a b c : ℕ) → bit_or (bit_or a b) c ≡ bit_or a (bit_or b c)
bits_thrice a b c =
    same_from_bits _ _ (λ i. omega (arith, bit_at_or (bit_or a b) c i, bit_at_or a b i, bit_at_or a (bit_or b c) i, bit_at_or b c i))

pub least_thrice : (a b c : ℤ) → int_min (int_min a b) c ≡ int_min a (int_min b c)
least_thrice a b c = omega (arith, ints, clamps)

pub greatest_thrice : (a b c : ℤ) → int_max (int_max a b) c ≡ int_max a (int_max b c)
greatest_thrice a b c = omega (arith, ints, clamps)

counted_thrice : (a b c : ℕ) → min (min (a + b) (2 ^ 64 - 1) + c) (2 ^ 64 - 1) ≡ min (a + min (b + c) (2 ^ 64 - 1)) (2 ^ 64 - 1)
counted_thrice a b c = omega arith

pub joined_thrice : (a b c : Entry) → joined (joined a b) c ≡ joined a (joined b c)
joined_thrice a b c = λ i. record {
  from = a.from;
  time = a.time;
  told = record {
    results = bits_thrice a.told.results b.told.results c.told.results i;
    states = bits_thrice a.told.states b.told.states c.told.states i;
    low = least_thrice a.told.low b.told.low c.told.low i;
    high = greatest_thrice a.told.high b.told.high c.told.high i;
  };
  changes = counted_thrice a.changes b.changes c.changes i;
}
