-- What is left of a condition when some of its fields have bits. This project's own.
use Rattle.std.specs.Prelude.{◌≡◌, ◌⊎◌, ℕ, Some, if◌then◌else◌}
use Rattle.lc_model.specs.declared.truth.Truth.{Truth}
use Rattle.lc_model.specs.declared.truth.Truth.TheVariants.{True, False}
use Rattle.lc_model.specs.declared.field.Term.{Term}
use Rattle.lc_model.specs.Condition.{And, Or, Xor, Condition, Watch, Not, Join}
use Rattle.lc_model.specs.LimitChecker.Watch.{truth_by}
use Rattle.rule_analysis.specs.Classes.{truth_there}
use Rattle.rule_analysis.specs.declared.open.Open.{Open}
use Rattle.rule_analysis.specs.declared.open.Open.TheVariants as tree
use Rattle.rule_analysis.specs.declared.open.Left.{Left}
use Rattle.rule_analysis.specs.declared.open.Left.TheVariants as left

-- the condition that it is
abbrev pub left_of : Open → Condition
left_of (tree.Compare field t) = Watch t
left_of (tree.Not' p o) = Not (left_of o)
left_of (tree.And' p a b) = Join And (left_of a) (left_of b)
left_of (tree.Or' p a b) = Join Or (left_of a) (left_of b)
left_of (tree.Xor' p a b) = Join Xor (left_of a) (left_of b)

-- it has this comparison, with this number
abbrev pub Has : Open → ℕ → Term → Type 0
Has (tree.Compare field u) at t = (field ≡ at) × (u ≡ t)
Has (tree.Not' p o) at t = Has o at t
Has (tree.And' p a b) at t = Has a at t ⊎ Has b at t
Has (tree.Or' p a b) at t = Has a at t ⊎ Has b at t
Has (tree.Xor' p a b) at t = Has a at t ⊎ Has b at t

-- the same of what is left
abbrev pub HasLeft : Left → ℕ → Term → Type 0
HasLeft (left.Known value) at t = ⊥
HasLeft (left.Open o) at t = Has o at t

-- the result of what is left
abbrev pub truth_left : (Term → Truth) → Left → Truth
truth_left found (left.Known value) = if value then True else False
truth_left found (left.Open o) = truth_by found (left_of o)

-- the comparisons of a condition are among those of one other, or of two others
abbrev pub AreOf : Open → Open → Type 0
AreOf o made = (at : ℕ) (t : Term) → Has made at t → Has o at t

abbrev pub AreOfBoth : Open → Open → Open → Type 0
AreOfBoth a b made = (at : ℕ) (t : Term) → Has made at t → Has a at t ⊎ Has b at t

-- the same of what is left
abbrev pub AreOfLeft : Left → Left → Type 0
AreOfLeft o made = (at : ℕ) (t : Term) → HasLeft made at t → HasLeft o at t

abbrev pub AreOfBothLeft : Left → Left → Left → Type 0
AreOfBothLeft a b made = (at : ℕ) (t : Term) → HasLeft made at t → HasLeft a at t ⊎ HasLeft b at t

-- the field of this number has these bits
abbrev pub HasBits : (Term → Truth) → ℕ → ℕ → Open → Type 0
HasBits found field bits o = (t : Term) → Has o field t → found t ≡ truth_there t (Some bits)
