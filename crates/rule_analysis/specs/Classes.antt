-- Numbers of a field that its comparisons can't tell apart. This project's own.
use Rattle.std.specs.Prelude.{◌≡◌, ℕ, ◌≤◌, ◌<◌, ◌^◌, List, Contains, Option, Some, None}
use Rattle.std.specs.List.{AllByRecursion}
use Rattle.lc_model.specs.declared.truth.Truth.{Truth}
use Rattle.lc_model.specs.declared.truth.Truth.TheVariants.{Stale}
use Rattle.lc_model.specs.declared.field.Term.{Term}
use Rattle.lc_model.specs.Field.{twos_complement}
use Rattle.lc_model.specs.LimitChecker.Watch.{judgement}
use Rattle.rule_analysis.specs.Judgement.{place_of, value_by}
use Rattle.rule_analysis.specs.Numbers.{Fits, IsLeastFrom}

-- the truth of a term whose field has these bits, or none yet
abbrev pub truth_there : Term → Option ℕ → Truth
truth_there t None = Stale
truth_there t (Some bits) = judgement t (Some (value_by (place_of t) bits))

-- the comparison says the same of two numbers' bits
abbrev pub SaysTheSame : Term → ℕ → ℕ → Type 0
SaysTheSame t one other = truth_there t (Some one) ≡ truth_there t (Some other)

-- whatever bits a field has, one of these makes each of its comparisons say the same
abbrev pub RepresentAll : List Term → List ℕ → Type 0
RepresentAll terms candidates =
    (bits : ℕ) → (candidate : ℕ) × Contains candidates candidate × AllByRecursion (λ t. SaysTheSame t candidate bits) terms

-- ---- thresholds

-- two numbers reach the same of these thresholds
abbrev pub ReachAlike : List ℕ → ℕ → ℕ → Type 0
ReachAlike thresholds n m = AllByRecursion (λ threshold. (threshold ≤ n → threshold ≤ m) × (threshold ≤ m → threshold ≤ n)) thresholds

-- then the comparison says the same of them
abbrev pub Separates : List ℕ → Term → Type 0
Separates thresholds t = (n m : ℕ) → n < 2 ^ 32 → m < 2 ^ 32 → ReachAlike thresholds n m →
    judgement t (Some (twos_complement t.kind n)) ≡ judgement t (Some (twos_complement t.kind m))

-- the least number that fits and reaches the threshold, if there is one, is represented by one of these
abbrev pub Covers : List Term → ℕ → List ℕ → ℕ → Type 0
Covers terms mask kept threshold = (n : ℕ) → Fits mask n → threshold ≤ n →
    (least : ℕ) × IsLeastFrom mask threshold least × (candidate : ℕ) × Contains kept candidate
    × AllByRecursion (λ t. SaysTheSame t candidate least) terms
