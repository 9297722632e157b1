-- Of numbers that fit a mask, the least one from each threshold on represents all.
use Rattle.std.proofs.Common.{◌≡◌, ℕ, ◌≤◌, ◌<◌, Bool, true, false, List, [], ◌∷◌, refl, arith}
use Rattle.std.specs.Prelude.{◌⊎◌, nat_le}
use Rattle.std.proofs.Common.{inl, inr}
use Rattle.std.proofs.lemmas.Bool.Decides.{nat_tests}
use Rattle.std.specs.List.{AllByRecursion}
use Rattle.rule_analysis.specs.Numbers.{Fits, IsLeastFrom}

-- a member, or 0
abbrev pub IsAmong : List ℕ → ℕ → Type 0
IsAmong [] n = n ≡ 0
IsAmong (x ∷ xs) n = (n ≡ x) ⊎ IsAmong xs n

-- the greatest of the thresholds that a number reaches
pub record Reached (thresholds : List ℕ) (n : ℕ) : Type 0 where
  pub at : ℕ
  pub among : IsAmong thresholds at
  pub below : at ≤ n
  pub greatest : AllByRecursion (λ t. t ≤ n → t ≤ at) thresholds

more : (thresholds : List ℕ) (n a b : ℕ) → a ≤ b → AllByRecursion (λ t. t ≤ n → t ≤ a) thresholds → AllByRecursion (λ t. t ≤ n → t ≤ b) thresholds
more [] n a b up all = tt
more (t ∷ ts) n a b up all = ((λ reached. le (all.0 reached) up), more ts n a b up all.1)
  where
    le : t ≤ a → a ≤ b → t ≤ b
    le p q = omega arith

pub reached : (thresholds : List ℕ) (n : ℕ) → Reached thresholds n
reached [] n = record { at = 0; among = refl; below = omega arith; greatest = tt }
reached (t ∷ ts) n = by_test (nat_le t n) refl (reached ts n)
  where
    yes : nat_le t n ≡ true → t ≤ n
    yes e = grind (arith, nat_tests)

    no : nat_le t n ≡ false → n < t
    no e = grind (arith, nat_tests)

    by_more : t ≤ n → (others : Reached ts n) → (test : Bool) → nat_le t others.at ≡ test → Reached (t ∷ ts) n
    by_more up others true e = record { at = others.at; among = inr others.among; below = others.below; greatest = ((λ here. small), others.greatest) }
      where
        small : t ≤ others.at
        small = grind (arith, nat_tests)
    by_more up others false e = record { at = t; among = inl refl; below = up; greatest = ((λ here. omega arith), more ts n others.at t large others.greatest) }
      where
        large : others.at ≤ t
        large = grind (arith, nat_tests)

    by_test : (test : Bool) → nat_le t n ≡ test → Reached ts n → Reached (t ∷ ts) n
    by_test true e others = by_more (yes e) others (nat_le t others.at) refl
    by_test false e others = record { at = others.at; among = inr others.among; below = others.below; greatest = ((λ here. absurd (impossible here (no e))), others.greatest) }
      where
        impossible : t ≤ n → n < t → ⊥
        impossible p q = omega arith

-- so the least number that fits, from there on, reaches the same thresholds
pub record Represents (mask : ℕ) (thresholds : List ℕ) (n : ℕ) : Type 0 where
  pub from : ℕ
  pub among : IsAmong thresholds from
  pub reached : from ≤ n
  pub there : (candidate : ℕ) → IsLeastFrom mask from candidate → (candidate ≤ n) × AllByRecursion (λ t. (t ≤ candidate → t ≤ n) × (t ≤ n → t ≤ candidate)) thresholds

pub represents : (mask : ℕ) (thresholds : List ℕ) (n : ℕ) → Fits mask n → Represents mask thresholds n
represents mask thresholds n fits = by_reached (reached thresholds n)
  where
    both : (ts : List ℕ) (from candidate : ℕ) → from ≤ candidate → candidate ≤ n → AllByRecursion (λ t. t ≤ n → t ≤ from) ts →
        AllByRecursion (λ t. (t ≤ candidate → t ≤ n) × (t ≤ n → t ≤ candidate)) ts
    both [] from candidate up below all = tt
    both (t ∷ ts) from candidate up below all = (((λ p. omega arith), (λ p. over (all.0 p) up)), both ts from candidate up below all.1)
      where
        over : t ≤ from → from ≤ candidate → t ≤ candidate
        over p q = omega arith

    by_reached : Reached thresholds n → Represents mask thresholds n
    by_reached r = record {
      from = r.at;
      among = r.among;
      reached = r.below;
      there = λ candidate is. (is.least n fits r.below, both thresholds r.at candidate is.reaches (is.least n fits r.below) r.greatest);
    }
