-- How many steps are enough to decide a condition. This project's own.
use Rattle.std.specs.Prelude.{◌≡◌, ℕ, ◌+◌, ◌^◌, ◌≤◌, ◌<◌, nat_le, ◌==◌, Bool, IsFalse, List, [], ◌∷◌, length, filter, slice_get, Some, Contains}
use Rattle.std.specs.Bool.{beq}
use Rattle.std.specs.List.{AllByRecursion, list_all}
use Rattle.std.specs.declared.vec.Vec.{Vec}
use Rattle.std.specs.Global.{Global}
use Rattle.lc_model.specs.declared.field.Term.{Term}
use Rattle.lc_model.specs.Field.{compares}
use Rattle.lc_model.specs.Condition.{Condition}
use Rattle.lc_model.specs.Tables.Equation.{mentions, distinct}
use Rattle.rule_analysis.specs.Judgement.{place_of, value_by}

-- the list names each of the terms
abbrev pub NamesAll : List Term → List Term → Type 0
NamesAll named terms = AllByRecursion (λ t. Contains named t) terms

-- so many steps may be too few: n different comparisons have 2 ^ n ways to come out, and they are fewer
abbrev pub AreFewFor : Condition → ℕ → Type 0
AreFewFor c steps = steps < 2 ^ length (distinct (mentions c))

-- they are fewer whatever list names the comparisons
abbrev pub AreFewByNames : Condition → ℕ → Type 0
AreFewByNames c steps = (named : List Term) → NamesAll named (mentions c) → steps < 2 ^ length named

-- ---- numbers that comparisons tell apart

-- whether the comparison holds of these bits
abbrev pub holds_of : Term → ℕ → Bool
holds_of t bits = compares t.op (value_by (place_of t) bits) t.value

-- all comparisons hold of both, or of neither
abbrev pub says_alike : List Term → ℕ → ℕ → Bool
says_alike terms one other = list_all (λ t. beq (holds_of t one) (holds_of t other)) terms

-- some comparison tells each two of them apart
unfoldable pub AreApart : List Term → List ℕ → Type 0
AreApart terms [] = Unit {0}
AreApart terms (one ∷ others) = AllByRecursion (λ other. IsFalse (says_alike terms one other)) others × AreApart terms others

-- ---- a walk

-- those of the terms that have this number
abbrev pub with_number : (Term → ℕ) → List Term → ℕ → List Term
with_number number named field = filter (λ t. number t == field) named

-- those that have one from this one on
abbrev pub numbered_from : (Term → ℕ) → List Term → ℕ → List Term
numbered_from number named from = filter (λ t. nat_le from (number t)) named

-- each field has no more candidates than its comparisons have ways to come out
abbrev pub AreNotMany : (Term → ℕ) → List Term → List (Vec ℕ Global) → Type 0
AreNotMany number terms rows = (named : List Term) → NamesAll named terms → (field : ℕ) (row : Vec ℕ Global) → slice_get rows field ≡ Some row →
    length row.items ≤ 2 ^ length (with_number number named field)

-- a walk from this field on takes fewer steps than the comparisons of its fields have ways to come out
abbrev pub IsWithin : (Term → ℕ) → List Term → (from before after : ℕ) → Type 0
IsWithin number terms from before after = (named : List Term) → NamesAll named terms →
    before < after + 2 ^ length (numbered_from number named from)
