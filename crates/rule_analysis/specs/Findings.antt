-- What is found of a condition, and what shows it. This project's own.
use Rattle.std.specs.Prelude.{◌≡◌, ℕ, ◌^◌, ◌<◌, ◌≤◌, ◌==◌, ◌||◌, ℤ, Bool, true, false, List, length, slice_get, Contains, Option, Some, None, IsTrue, ◌⊎◌}
use Rattle.std.specs.List.{AllByRecursion, AllPairs, AllZip}
use Rattle.std.specs.Option.{option_map_or}
use Rattle.std.specs.declared.vec.Vec.{Vec}
use Rattle.std.specs.Global.{Global}
use Rattle.lc_model.specs.declared.truth.Truth.TheVariants.{True}
use Rattle.lc_model.specs.Field.{value_of}
use Rattle.lc_model.specs.Packet.{stream_fault, message_id, is_telemetry_mid}
use Rattle.lc_model.specs.declared.field.Term.{Term}
use Rattle.lc_model.specs.Condition.{And, Condition, Watch, Not, Join, condition_of}
use Rattle.lc_model.specs.Rule.{NamedRule}
use Rattle.lc_model.specs.declared.rule.Rule.{Rule}
use Rattle.lc_model.specs.Tables.Equation.{mentions}
use Rattle.lc_model.specs.LimitChecker.Watch.{truth_by, truth_of}
use Rattle.rule_analysis.specs.declared.deciding.Decision.{Decision}
use Rattle.rule_analysis.specs.declared.deciding.Decision.TheVariants as decision
use Rattle.rule_analysis.specs.declared.walk.Outcome.{Outcome}
use Rattle.rule_analysis.specs.declared.walk.Outcome.TheVariants as outcome
use Rattle.rule_analysis.specs.declared.finding.Finding.{Finding}
use Rattle.rule_analysis.specs.declared.finding.Finding.TheVariants as finding
use Rattle.rule_analysis.specs.declared.finding.UnknownReason.TheVariants as reason
use Rattle.rule_analysis.specs.declared.finding.Constancy.{Constancy}
use Rattle.rule_analysis.specs.declared.finding.Constancy.TheVariants as constancy
use Rattle.rule_analysis.specs.declared.finding.ComparisonJudgement.{ComparisonJudgement}
use Rattle.rule_analysis.specs.declared.finding.RuleJudgement.{RuleJudgement}
use Rattle.rule_analysis.specs.declared.finding.Relation.{Relation}
use Rattle.rule_analysis.specs.declared.finding.Relation.TheVariants as relation
use Rattle.rule_analysis.specs.declared.finding.PairJudgement.{PairJudgement}
use Rattle.rule_analysis.specs.Judgement.{AreAlike, NeverFails, NeverHolds, HoldsForSome, FailsWherever}
use Rattle.rule_analysis.specs.Steps.{AreFewFor, AreFewByNames}
use Rattle.rule_analysis.specs.declared.fields.Field.{Field}
use Rattle.rule_analysis.specs.Fields.{AreFieldsOf, field_number, read_one_field}
use Rattle.rule_analysis.specs.Search.{found_so_far}
use Rattle.rule_analysis.specs.Came.{history_of}
use Rattle.rule_analysis.specs.Laid.{AreLaid, chosen_of}
use Rattle.rule_analysis.specs.Bits.{ReadsTelemetry, share_bits}

-- ---- numbers

-- these bits of the first of its fields make the condition true, whatever the others have
pub record HoldsWith (c : Condition) (fields : List Field) (bits : List ℕ) : Type 0 where
  pub some : HoldsForSome c
  pub read : AreFieldsOf (mentions c) fields
  pub few : length bits ≤ length fields
  pub holds : truth_by (found_so_far (field_number fields) bits) c ≡ True

-- these bits of the first of the fields make the condition true
pub record IsFoundBits (c : Condition) (fields : List Field) (bits : List ℕ) : Type 0 where
  pub few : length bits ≤ length fields
  pub holds : truth_by (found_so_far (field_number fields) bits) c ≡ True

-- what is found of them: these bits, or none make it true, or this number of steps may be too few
abbrev pub IsSought : Condition → List Field → ℕ → Outcome → List ℕ → Type 0
IsSought c fields steps outcome.Found bits = IsFoundBits c fields bits
IsSought c fields steps outcome.Excluded bits = NeverHolds c
IsSought c fields steps outcome.Spent bits = AreFewByNames c steps

-- no values of its fields make the condition true, or some do, or this number of steps may be too few
abbrev pub IsDecided : Condition → ℕ → Decision → Type 0
IsDecided c steps decision.Never = NeverHolds c
IsDecided c steps (decision.Holds fields bits) = HoldsWith c fields.items bits.items
IsDecided c steps decision.Spent = AreFewByNames c steps

-- ---- packets

-- what a term's field is in a packet that was seen
abbrev pub value_seen : Term → Option (List ℕ × ℕ) → Option ℤ
value_seen t None = None
value_seen t (Some (packet, agings)) = value_of t packet

-- telemetry that a stream may bring
pub record IsTelemetry (packet : List ℕ) : Type 0 where
  pub no_fault : stream_fault packet ≡ None
  pub mid : IsTrue (is_telemetry_mid (message_id packet))

-- with these packets the condition is true
pub record Shows (c : Condition) (packets : List (Vec ℕ Global)) : Type 0 where
  pub telemetry : AllByRecursion (λ (packet : Vec ℕ Global). IsTelemetry packet.items) packets
  pub fails : truth_of c (history_of packets) ≡ True

-- ---- findings

-- bits of its fields make the condition true, each field being free, but laid into packets they don't; and of fields as rule
-- texts have them two share a bit, or one shares a bit with the header of its packets
pub record IsOverlap (c : Condition) : Type 0 where
  pub fields : List Field
  pub bits : List ℕ
  pub holds : HoldsWith c fields bits
  pub packets : List (Vec ℕ Global)
  pub laid : AreLaid (chosen_of fields bits) packets
  pub hidden : Shows c packets → ⊥
  pub shared : AllByRecursion ReadsTelemetry (mentions c) → IsTrue (share_bits (mentions c))

-- no history makes the condition true; these packets do; fields share bits; or this number of steps may be too few
abbrev pub IsFound : Condition → ℕ → Finding → Type 0
IsFound c steps finding.Never = NeverFails c
IsFound c steps (finding.Possible packets) = Shows c packets.items
IsFound c steps (finding.Unknown reason.Overlap) = IsOverlap c
IsFound c steps (finding.Unknown reason.Steps) = AreFewFor c steps

-- the comparison holds of all numbers that its field may have, or of none; or of some, and not of others
abbrev pub IsConstancy : Term → Constancy → Type 0
IsConstancy t constancy.Always = NeverFails (Not (Watch t))
IsConstancy t constancy.Never = NeverFails (Watch t)
IsConstancy t constancy.Varies = HoldsForSome (Watch t) × HoldsForSome (Not (Watch t))

-- these comparisons, each judged
abbrev pub AreComparisons : List Term → List ComparisonJudgement → Type 0
AreComparisons terms judged = AllZip (λ (t : Term) (j : ComparisonJudgement). (j.term ≡ t) × IsConstancy t j.says) terms judged

-- the most steps for a rule: enough for any that has at most twenty different comparisons
abbrev pub rule_steps : ℕ
rule_steps = 2 ^ 20

-- whether a rule with this condition can fail, and whether it can pass, and its comparisons
pub record IsRuleJudged (c : Condition) (j : RuleJudgement) : Type 0 where
  pub fails : IsFound c rule_steps j.fails
  pub passes : IsFound (Not c) rule_steps j.passes
  pub comparisons : AreComparisons (mentions c) j.comparisons.items

-- each rule judged, in their order
abbrev pub AreJudged : List NamedRule → List RuleJudgement → Type 0
AreJudged rules judged = AllZip (λ (rule : NamedRule) (j : RuleJudgement). IsRuleJudged rule.action.condition j) rules judged

-- ---- pairs

-- how two conditions are related
abbrev pub IsRelated : Condition → Condition → Relation → Type 0
IsRelated a b relation.Same = FailsWherever a b × FailsWherever b a
IsRelated a b relation.FirstFollows = FailsWherever b a
IsRelated a b relation.SecondFollows = FailsWherever a b

-- two of the rules, and how they are related
pub record IsPair (rules : List NamedRule) (p : PairJudgement) : Type 0 where
  pub order : p.first < p.second
  pub first : NamedRule
  pub first_is : slice_get rules p.first ≡ Some first
  pub second : NamedRule
  pub second_is : slice_get rules p.second ≡ Some second
  pub related : IsRelated first.action.condition second.action.condition p.relation

-- the first of these rules is alike the one at this place
abbrev pub IsFirst : List Rule → ℕ → ℕ → Type 0
IsFirst rules first at =
    (a b : Rule) × (slice_get rules first ≡ Some a) × (slice_get rules at ≡ Some b) × AreAlike (condition_of a.cond) (condition_of b.cond)

-- each number is of a rule that is alike the rule at its place
abbrev pub AreFirsts : List Rule → List ℕ → Type 0
AreFirsts rules firsts = (at first : ℕ) → slice_get firsts at ≡ Some first → IsFirst rules first at

-- ---- which pairs are told

-- the rules request one sequence, or read a common field
abbrev pub are_near : NamedRule → NamedRule → Bool
are_near first second =
    (first.action.sequence == second.action.sequence) || read_one_field (mentions first.action.condition) (mentions second.action.condition)

-- the least number of steps for each question about two rules: enough for eight different comparisons
abbrev pub least_pair_steps : ℕ
least_pair_steps = 2 ^ 8

-- numbers of the fields make the first condition true and the second one false; or it is not known, which is counted, and then the
-- two have too many comparisons
abbrev pub MayDiffer : (unsettled : ℕ) → Condition → Condition → Type 0
MayDiffer unsettled a b = HoldsForSome (Join And a (Not b)) ⊎ (AreFewFor (Join And a (Not b)) least_pair_steps × (0 < unsettled))

-- the second rule is said to fail wherever the first one does
abbrev pub says_second : Relation → Bool
says_second relation.Same = true
says_second relation.FirstFollows = false
says_second relation.SecondFollows = true

-- and the first one wherever the second one does
abbrev pub says_first : Relation → Bool
says_first relation.Same = true
says_first relation.FirstFollows = true
says_first relation.SecondFollows = false

-- in both orders: the relation that is found has it, or the conditions may differ
pub record IsRelationSettled (unsettled : ℕ) (a b : Condition) (found : Option Relation) : Type 0 where
  pub second : IsTrue (option_map_or says_second found false) ⊎ MayDiffer unsettled a b
  pub first : IsTrue (option_map_or says_first found false) ⊎ MayDiffer unsettled b a

-- some pair has this relation of the rules with these numbers
abbrev pub IsSaid : (Relation → Bool) → List PairJudgement → (first second : ℕ) → Type 0
IsSaid says pairs first second =
    (p : PairJudgement) × Contains pairs p × (p.first ≡ first) × (p.second ≡ second) × IsTrue (says p.relation)

-- in both orders: some pair has it, or the conditions of the two rules may differ
pub record IsPairSettled (unsettled : ℕ) (pairs : List PairJudgement) (i j : ℕ) (a b : Condition) : Type 0 where
  pub second : IsSaid says_second pairs i j ⊎ MayDiffer unsettled a b
  pub first : IsSaid says_first pairs i j ⊎ MayDiffer unsettled b a

-- the same for the rules with these numbers, if they are near
abbrev pub IsSettledAt : (unsettled : ℕ) → List NamedRule → List PairJudgement → (i j : ℕ) → Type 0
IsSettledAt unsettled rules pairs i j = (first second : NamedRule) → slice_get rules i ≡ Some first → slice_get rules j ≡ Some second →
    IsTrue (are_near first second) → IsPairSettled unsettled pairs i j first.action.condition second.action.condition

-- the same for all pairs of rules that are near; none is left open where none is counted
abbrev pub AreSettled : (unsettled : ℕ) → List NamedRule → List PairJudgement → Type 0
AreSettled unsettled rules pairs = (i j : ℕ) → i < j → IsSettledAt unsettled rules pairs i j

-- ---- each pair once

-- a pair of the rules of lesser numbers, by the second one, and where that is the same by the first one
abbrev pub IsBefore : (first second : ℕ) → PairJudgement → Type 0
IsBefore first second p = (p.second < second) ⊎ ((p.second ≡ second) × (p.first < first))

-- each pair is listed once, in that order
abbrev pub AreInOrder : List PairJudgement → Type 0
AreInOrder pairs = AllPairs (λ (p q : PairJudgement). IsBefore q.first q.second p) pairs

-- the same, and all pairs come before that of the rules with these numbers
pub record AreBefore (pairs : List PairJudgement) (first second : ℕ) : Type 0 where
  pub in_order : AreInOrder pairs
  pub before : AllByRecursion (IsBefore first second) pairs
