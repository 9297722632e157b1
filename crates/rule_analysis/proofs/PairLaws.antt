-- Of two rules it is told how they go together.
use Rattle.std.proofs.Common.{◌≡◌, ℕ, zero, suc, ◌≤◌, ◌<◌, Bool, true, false, not, List, [], ◌∷◌, ◌++◌, length, slice_get, get_or, refl, ap₂, sym, ◌∙◌, subst, arith, Option, Some, None, inl, inr, ◌⊎◌}
use Rattle.std.specs.Prelude.{Contains, IsTrue}
use Rattle.std.proofs.lemmas.List.Elements.{Contains-append_left, Contains-push}
use Rattle.lc_model.specs.declared.truth.Truth.{Truth}
use Rattle.lc_model.specs.declared.truth.Truth.TheVariants.{True, False, Stale, Error}
use Rattle.lc_model.specs.Condition.{Condition, And, Xor, Join, Not, condition_of}
use Rattle.lc_model.specs.LimitChecker.Watch.{combined, truth_of}
use Rattle.lc_model.specs.Rule.{NamedRule, rule_of, rules_of}
use Rattle.lc_model.specs.declared.rule.Rule.{Rule}
use Rattle.rule_analysis.specs.declared.finding.PairJudgement.{PairJudgement}
use Rattle.rule_analysis.specs.declared.finding.Relation.{Relation}
use Rattle.rule_analysis.specs.declared.finding.Relation.TheVariants.{Same}
use Rattle.rule_analysis.specs.Findings.{are_near, MayDiffer, says_first, says_second, IsRelated, IsRelationSettled, IsSaid, IsPairSettled, IsSettledAt, AreSettled, least_pair_steps}
use Rattle.rule_analysis.specs.Judgement.{FailsWherever, HoldsForSome, NeverFails, found_in, is_known}
use Rattle.rule_analysis.specs.Steps.{AreFewByNames}
use Rattle.rule_analysis.proofs.Each.{there_mapped}
use Rattle.rule_analysis.proofs.Known.{known_where_all_is}
use Rattle.rule_analysis.proofs.StepLaws.{few_by_distinct}

-- ---- what is said stays

abbrev pub Keeps : List PairJudgement → List PairJudgement → Type 0
Keeps old new = (p : PairJudgement) → Contains old p → Contains new p

-- more are counted
pub differ_still : (before after : ℕ) (a b : Condition) → before ≤ after → MayDiffer before a b → MayDiffer after a b
differ_still before after a b more (inl holds) = inl holds
differ_still before after a b more (inr (few, counted)) = inr (few, omega (arith, more, counted))

-- a pair is counted where something of it is not known
pub differ_counted : (unknown after : ℕ) (a b : Condition) → (unknown ≤ 0) ⊎ (0 < after) → MayDiffer unknown a b → MayDiffer after a b
differ_counted unknown after a b some (inl holds) = inl holds
differ_counted unknown after a b (inl none) (inr (few, counted)) = absurd (omega (arith, none, counted))
differ_counted unknown after a b (inr some) (inr (few, counted)) = inr (few, some)

related_counted : (unknown after : ℕ) (a b : Condition) {S : Type 0} → (unknown ≤ 0) ⊎ (0 < after) → S ⊎ MayDiffer unknown a b → S ⊎ MayDiffer after a b
related_counted unknown after a b some (inl said) = inl said
related_counted unknown after a b some (inr differ) = inr (differ_counted unknown after a b some differ)

pub settled_counted : (unknown after : ℕ) (a b : Condition) (found : Option Relation) → (unknown ≤ 0) ⊎ (0 < after) → IsRelationSettled unknown a b found →
    IsRelationSettled after a b found
settled_counted unknown after a b found some settled = record {
  second = related_counted unknown after a b some settled.second;
  first = related_counted unknown after b a some settled.first;
}

said_still : (says : Relation → Bool) (before after : ℕ) (old new : List PairJudgement) (i j : ℕ) (a b : Condition) → before ≤ after → Keeps old new →
    IsSaid says old i j ⊎ MayDiffer before a b → IsSaid says new i j ⊎ MayDiffer after a b
said_still says before after old new i j a b more keeps (inl said) = inl (said.0, keeps said.0 said.1, said.2, said.3, said.4)
said_still says before after old new i j a b more keeps (inr other) = inr (differ_still before after a b more other)

pub settled_still : (before after : ℕ) (rules : List NamedRule) (old new : List PairJudgement) (i j : ℕ) → before ≤ after → Keeps old new →
    IsSettledAt before rules old i j → IsSettledAt after rules new i j
settled_still before after rules old new i j more keeps settled first second e f near =
    let was = settled first second e f near in
    record {
      second = said_still says_second before after old new i j first.action.condition second.action.condition more keeps was.second;
      first = said_still says_first before after old new i j second.action.condition first.action.condition more keeps was.first;
    }

pub keeps_pushed : (old new : List PairJudgement) (p : PairJudgement) → new ≡ old ++ p ∷ [] → Keeps old new
keeps_pushed old new p pushed q has = subst (λ list. Contains list q) (sym pushed) (Contains-append_left old (p ∷ []) q has)

-- ---- two rules

pub same_rule : (rules : List Rule) (i : ℕ) (rule : Rule) (named : NamedRule) → i < length rules → rule ≡ get_or rules i rule → slice_get (rules_of rules) i ≡ Some named →
    rule_of rule ≡ named
same_rule rules i rule named below is e =
    let both = sym (there_mapped rule_of rules i rule below is) ∙ e in
    cc

pub settled_at : (unsettled : ℕ) (rules : List Rule) (i j : ℕ) (one other : Rule) (pairs : List PairJudgement) → i < length rules → j < length rules → one ≡ get_or rules i one →
    other ≡ get_or rules j other → (IsTrue (are_near (rule_of one) (rule_of other)) → IsPairSettled unsettled pairs i j (condition_of one.cond) (condition_of other.cond)) →
    IsSettledAt unsettled (rules_of rules) pairs i j
settled_at unsettled rules i j one other pairs i_below j_below one_is other_is settled first second e f near =
    let is_first = same_rule rules i one first i_below one_is e in
    let is_second = same_rule rules j other second j_below other_is f in
    subst (λ (r : NamedRule). IsPairSettled unsettled pairs i j first.action.condition r.action.condition) is_second
    (subst (λ (r : NamedRule). IsPairSettled unsettled pairs i j r.action.condition (rule_of other).action.condition) is_first
    (settled (subst (λ r. IsTrue (are_near r (rule_of other))) (sym is_first) (subst (λ r. IsTrue (are_near first r)) (sym is_second) near))))

pub far_is_settled : (unsettled : ℕ) (rules : List Rule) (i j : ℕ) (one other : Rule) (pairs : List PairJudgement) (near : Bool) → i < length rules → j < length rules →
    one ≡ get_or rules i one → other ≡ get_or rules j other → near ≡ are_near (rule_of one) (rule_of other) → near ≡ false → IsSettledAt unsettled (rules_of rules) pairs i j
far_is_settled unsettled rules i j one other pairs near i_below j_below one_is other_is is far =
    settled_at unsettled rules i j one other pairs i_below j_below one_is other_is (λ close. absurd (contradict (sym far ∙ is ∙ close)))
  where
    contradict : false ≡ true → ⊥
    contradict e = cc

from_there : (unsettled : ℕ) (rules : List Rule) (i j : ℕ) (one other : Rule) (found : Option Relation) → one ≡ get_or rules i one → other ≡ get_or rules j other →
    IsRelationSettled unsettled (condition_of (get_or rules i one).cond) (condition_of (get_or rules j other).cond) found →
    IsRelationSettled unsettled (condition_of one.cond) (condition_of other.cond) found
from_there unsettled rules i j one other found one_is other_is settled =
    subst (λ (r : Rule). IsRelationSettled unsettled (condition_of one.cond) (condition_of r.cond) found) (sym other_is)
    (subst (λ (r : Rule). IsRelationSettled unsettled (condition_of r.cond) (condition_of (get_or rules j other).cond) found) (sym one_is) settled)

pub pushed_is_settled : (unsettled : ℕ) (rules : List Rule) (i j : ℕ) (one other : Rule) (old new : List PairJudgement) (relation : Relation) (p : PairJudgement) → i < length rules →
    j < length rules → one ≡ get_or rules i one → other ≡ get_or rules j other → p.first ≡ i → p.second ≡ j → p.relation ≡ relation → new ≡ old ++ p ∷ [] →
    IsRelationSettled unsettled (condition_of (get_or rules i one).cond) (condition_of (get_or rules j other).cond) (Some relation) →
    IsSettledAt unsettled (rules_of rules) new i j
pushed_is_settled unsettled rules i j one other old new relation p i_below j_below one_is other_is first_is second_is relation_is pushed settled_there =
    settled_at unsettled rules i j one other new i_below j_below one_is other_is (λ close. record {
      second = told says_second settled.second;
      first = told says_first settled.first;
    })
  where
    settled : IsRelationSettled unsettled (condition_of one.cond) (condition_of other.cond) (Some relation)
    settled = from_there unsettled rules i j one other (Some relation) one_is other_is settled_there

    has : Contains new p
    has = subst (λ list. Contains list p) (sym pushed) (Contains-push old p)

    told : (says : Relation → Bool) {M : Type 0} → IsTrue (says relation) ⊎ M → IsSaid says new i j ⊎ M
    told says (inl said) = inl (p, has, first_is, second_is, subst (λ r. IsTrue (says r)) (sym relation_is) said)
    told says (inr differ) = inr differ

pub none_is_settled : (unsettled : ℕ) (rules : List Rule) (i j : ℕ) (one other : Rule) (pairs : List PairJudgement) → i < length rules → j < length rules → one ≡ get_or rules i one →
    other ≡ get_or rules j other → IsRelationSettled unsettled (condition_of (get_or rules i one).cond) (condition_of (get_or rules j other).cond) None →
    IsSettledAt unsettled (rules_of rules) pairs i j
none_is_settled unsettled rules i j one other pairs i_below j_below one_is other_is settled_there =
    settled_at unsettled rules i j one other pairs i_below j_below one_is other_is (λ close. record {
      second = differ settled.second;
      first = differ settled.first;
    })
  where
    settled : IsRelationSettled unsettled (condition_of one.cond) (condition_of other.cond) None
    settled = from_there unsettled rules i j one other None one_is other_is settled_there

    differ : {S M : Type 0} → IsTrue false ⊎ M → S ⊎ M
    differ (inl said) = cc
    differ (inr other) = inr other

-- ---- one question

pub differ_by : (unsettled : ℕ) (a b : Condition) (some : Bool) → (Some some ≡ Some true → HoldsForSome (Join And a (Not b))) → not some ≡ false →
    MayDiffer unsettled a b
differ_by unsettled a b true holds e = inl (holds refl)
differ_by unsettled a b false holds e = cc

pub differ_by_few : (unsettled : ℕ) (a b : Condition) → 0 < unsettled → AreFewByNames (Join And a (Not b)) least_pair_steps → MayDiffer unsettled a b
differ_by_few unsettled a b counted few = inr (few_by_distinct (Join And a (Not b)) least_pair_steps few, counted)

pub never_by : (some : Bool) → not some ≡ true → Some some ≡ Some false
never_by true e = cc
never_by false e = refl

-- ---- both questions at once

module _ (a b : Condition) (never : NeverFails (Join Xor a b)) where
  second_fails : FailsWherever a b
  second_fails history fails known = by_truth (truth_of b history) refl (known_where_all_is (found_in history) b known)
    where
      by_truth : (x : Truth) → truth_of b history ≡ x → IsTrue (is_known x) → truth_of b history ≡ True
      by_truth True e k = e
      by_truth False e k = absurd (never history (ap₂ (combined Xor) fails e))
      by_truth Stale e k = cc
      by_truth Error e k = cc

  first_fails : FailsWherever b a
  first_fails history fails known = by_truth (truth_of a history) refl (known_where_all_is (found_in history) a known)
    where
      by_truth : (x : Truth) → truth_of a history ≡ x → IsTrue (is_known x) → truth_of a history ≡ True
      by_truth True e k = e
      by_truth False e k = absurd (never history (ap₂ (combined Xor) e fails))
      by_truth Stale e k = cc
      by_truth Error e k = cc

  -- conditions that never differ fail together
  pub never_differ_is_same : IsRelated a b Same
  never_differ_is_same = (second_fails, first_fails)

-- ---- all

pub there_is_inside : (rules : List Rule) (j : ℕ) (named : NamedRule) → slice_get (rules_of rules) j ≡ Some named → j < length rules
there_is_inside [] j named e = cc
there_is_inside (rule ∷ rules) zero named e = omega arith
there_is_inside (rule ∷ rules) (suc j) named e = omega (arith, there_is_inside rules j named e)

pub all_settled : (unsettled : ℕ) (rules : List Rule) (pairs : List PairJudgement) (count : ℕ) → length rules ≤ count →
    ((j : ℕ) → j < count → (i : ℕ) → i < j → IsSettledAt unsettled (rules_of rules) pairs i j) → AreSettled unsettled (rules_of rules) pairs
all_settled unsettled rules pairs count past settled i j less first second e f near =
    settled j (omega (arith, past, there_is_inside rules j second f)) i less first second e f near
