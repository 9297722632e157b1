-- Comparisons that a rule can do without. This project's own.
use Rattle.std.specs.Prelude.{◌≡◌, ◌≢◌, ℕ, ◌^◌, ◌<◌, Bool, true, false, List, [], ◌∷◌, ◌++◌, slice_get, Contains, Some, if◌then◌else◌, ◌⊎◌}
use Rattle.std.specs.List.{AllByRecursion, AllPairs}
use Rattle.lc_model.specs.declared.field.Term.{Term}
use Rattle.lc_model.specs.Condition.{And, Or, Xor, Condition, Watch, Not, Join}
use Rattle.lc_model.specs.Rule.{NamedRule}
use Rattle.lc_model.specs.Tables.Equation.{same_term, mentions}
use Rattle.rule_analysis.specs.declared.finding.SpareComparison.{SpareComparison}
use Rattle.rule_analysis.specs.Judgement.{NeverFails, HoldsForSome}
use Rattle.rule_analysis.specs.Steps.{AreFewFor}

-- true, or false, wherever the comparison is known
abbrev pub constant : Bool → Term → Condition
constant true t = Join Or (Watch t) (Not (Watch t))
constant false t = Join And (Watch t) (Not (Watch t))

-- the condition with another one in the place of each mention of a comparison
abbrev pub replaced : Term → Condition → Condition → Condition
replaced t other (Watch u) = if same_term u t then other else Watch u
replaced t other (Not c) = Not (replaced t other c)
replaced t other (Join o a b) = Join o (replaced t other a) (replaced t other b)

-- whatever was seen, the condition is not true where it is false with the comparison taken as true, or as false, and not false where
-- it is true then; one of the two may be stale or in error
abbrev pub CanDoWithout : Condition → Term → Bool → Type 0
CanDoWithout c t value = NeverFails (Join Xor c (replaced t (constant value t) c))

-- a rule, and a comparison that it can do without
pub record IsSpare (rules : List NamedRule) (s : SpareComparison) : Type 0 where
  pub rule : NamedRule
  pub rule_is : slice_get rules s.rule ≡ Some rule
  pub without : CanDoWithout rule.action.condition s.term s.taken_as

-- ---- which are told

-- the least number of steps for each comparison: enough for rules of eight different ones
abbrev pub least_spare_steps : ℕ
least_spare_steps = 2 ^ 8

-- for numbers of the fields the condition says something else with the comparison taken so; or it is not known, which is counted, and
-- then it has too many comparisons
abbrev pub MayMatter : (unsettled : ℕ) → Condition → Term → Bool → Type 0
MayMatter unsettled c t value =
    HoldsForSome (Join Xor c (replaced t (constant value t) c)) ⊎ (AreFewFor c least_spare_steps × (0 < unsettled))

-- with either value
abbrev pub MayBeNeeded : (unsettled : ℕ) → Condition → Term → Type 0
MayBeNeeded unsettled c t = MayMatter unsettled c t true × MayMatter unsettled c t false

-- the comparison stands in the rule of this number
abbrev pub IsOf : List NamedRule → ℕ → Term → Type 0
IsOf rules i t = (rule : NamedRule) → slice_get rules i ≡ Some rule → Contains (mentions rule.action.condition) t

-- the list has the comparison for the rule with this number
abbrev pub IsTold : List SpareComparison → ℕ → Term → Type 0
IsTold spare i t = (s : SpareComparison) × Contains spare s × (s.rule ≡ i) × (s.term ≡ t)

-- the list has it, or it may be needed
abbrev pub IsToldOrNeeded : (unsettled : ℕ) → List NamedRule → List SpareComparison → ℕ → Term → Type 0
IsToldOrNeeded unsettled rules spare i t =
    (rule : NamedRule) → slice_get rules i ≡ Some rule → IsTold spare i t ⊎ MayBeNeeded unsettled rule.action.condition t

-- the same for the first of some terms
abbrev pub AreToldUpTo : (unsettled : ℕ) → List NamedRule → List SpareComparison → ℕ → List Term → ℕ → Type 0
AreToldUpTo unsettled rules spare i terms count =
    (k : ℕ) (t : Term) → k < count → slice_get terms k ≡ Some t → IsToldOrNeeded unsettled rules spare i t

-- the same for each comparison of each rule; none is left open where none is counted
abbrev pub AreToldOrNeeded : (unsettled : ℕ) → List NamedRule → List SpareComparison → Type 0
AreToldOrNeeded unsettled rules spare = (i : ℕ) (rule : NamedRule) → slice_get rules i ≡ Some rule →
    AllByRecursion (λ t. IsTold spare i t ⊎ MayBeNeeded unsettled rule.action.condition t) (mentions rule.action.condition)

-- ---- each comparison once

-- of a rule before, or of the same rule another comparison
abbrev pub IsAnother : (s t : SpareComparison) → Type 0
IsAnother s t = (s.rule < t.rule) ⊎ ((s.rule ≡ t.rule) × (s.term ≢ t.term))

-- each comparison of a rule is listed once, rule by rule
abbrev pub AreOnce : List SpareComparison → Type 0
AreOnce spare = AllPairs IsAnother spare

-- the same, and all are of rules before the one with this number
pub record AreOfRulesBefore (spare : List SpareComparison) (rule : ℕ) : Type 0 where
  pub once : AreOnce spare
  pub before : AllByRecursion (λ (s : SpareComparison). s.rule < rule) spare

-- one of the first of these
abbrev pub IsAmongFirst : List Term → ℕ → Term → Type 0
IsAmongFirst terms count t = (k : ℕ) × (k < count) × (slice_get terms k ≡ Some t)

-- the same, and all are of earlier rules, or among the first comparisons of this one
pub record AreOfTermsBefore (spare : List SpareComparison) (rule : ℕ) (terms : List Term) (count : ℕ) : Type 0 where
  pub once : AreOnce spare
  pub before : AllByRecursion (λ (s : SpareComparison). (s.rule < rule) ⊎ ((s.rule ≡ rule) × IsAmongFirst terms count s.term)) spare

-- the list is unchanged, or has this comparison of the rule with this number added
abbrev pub IsToldAtMost : (old new : List SpareComparison) → ℕ → Term → Type 0
IsToldAtMost old new rule t = (new ≡ old) ⊎ ((s : SpareComparison) × (s.rule ≡ rule) × (s.term ≡ t) × (new ≡ old ++ s ∷ []))
