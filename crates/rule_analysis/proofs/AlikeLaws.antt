-- Conditions that have the same result for all numbers of their fields.
use Rattle.std.proofs.Common.{◌≡◌, ◌≢◌, ℕ, zero, suc, ◌<◌, ◌≤◌, Bool, true, false, List, [], ◌∷◌, ◌++◌, length, get_or, slice_get, refl, ap, sym, ◌∙◌, subst, arith, Some, None, inl, inr, ◌⊎◌, if◌then◌else◌}
use Rattle.std.proofs.lemmas.Option.{slice_get_cases}
use Rattle.std.specs.Prelude.{IsTrue}
use Rattle.std.specs.List.{AllByRecursion}
use Rattle.lc_model.specs.Field.{compares}
use Rattle.lc_model.specs.Condition.{Condition, Join, Xor, condition_of}
use Rattle.lc_model.specs.LimitChecker.Watch.{combined, truth_by}
use Rattle.lc_model.specs.Tables.Equation.{mentions}
use Rattle.lc_model.specs.declared.field.Term.{Term}
use Rattle.lc_model.specs.declared.rule.Rule.{Rule}
use Rattle.lc_model.specs.declared.truth.Truth.{Truth}
use Rattle.lc_model.specs.declared.truth.Truth.TheVariants.{True, False, Stale, Error}
use Rattle.rule_analysis.specs.declared.finding.Relation.TheVariants.{Same}
use Rattle.rule_analysis.specs.Findings.{AreFirsts, IsFirst, IsRelated}
use Rattle.rule_analysis.specs.Judgement.{AreAlike, NeverHolds, Readings, found_by, is_known, place_of, value_by}
use Rattle.rule_analysis.proofs.Known.{known_where_all_is, never_holds_never_fails}
use Rattle.rule_analysis.proofs.OpenLaws.{never_one}
use Rattle.rule_analysis.proofs.PairLaws.{never_differ_is_same}

-- ---- two conditions

-- every comparison is known where its field has a number
each_known : (readings : Readings) (ts : List Term) → AllByRecursion (λ t. IsTrue (is_known (found_by readings t))) ts
each_known readings [] = tt
each_known readings (t ∷ ts) = (one_known (compares t.op (value_by (place_of t) (readings (place_of t))) t.value), each_known readings ts)
  where
    one_known : (holds : Bool) → IsTrue (is_known (if holds then True else False))
    one_known true = refl
    one_known false = refl

same_unless_one : (x y : Truth) → IsTrue (is_known x) → IsTrue (is_known y) → combined Xor x y ≢ True → x ≡ y
same_unless_one True True k l never = refl
same_unless_one True False k l never = absurd (never refl)
same_unless_one True Stale k l never = cc
same_unless_one True Error k l never = cc
same_unless_one False True k l never = absurd (never refl)
same_unless_one False False k l never = refl
same_unless_one False Stale k l never = cc
same_unless_one False Error k l never = cc
same_unless_one Stale y k l never = cc
same_unless_one Error y k l never = cc

pub never_differ_alike : (a b : Condition) → NeverHolds (Join Xor a b) → AreAlike a b
never_differ_alike a b never readings =
    same_unless_one (truth_by (found_by readings) a) (truth_by (found_by readings) b) (known a) (known b) (never readings)
  where
    known : (c : Condition) → IsTrue (is_known (truth_by (found_by readings) c))
    known c = known_where_all_is (found_by readings) c (each_known readings (mentions c))

pub alike_is_same : (a b : Condition) → AreAlike a b → IsRelated a b Same
alike_is_same a b alike = never_differ_is_same a b (never_holds_never_fails (Join Xor a b) never)
  where
    never : NeverHolds (Join Xor a b)
    never readings holds =
        never_one (truth_by (found_by readings) b) (subst (λ x. combined Xor x (truth_by (found_by readings) b) ≡ True) (alike readings) holds)

-- ---- the first of its kind

pub own_first : (rules : List Rule) (at : ℕ) → at < length rules → IsFirst rules at at
own_first rules at below = by_case (slice_get_cases rules at).1
  where
    by_case : ((x : Rule) × (at < length rules) × (slice_get rules at ≡ Some x) × (get_or rules at x ≡ x)) ⊎ ((length rules ≤ at) × (slice_get rules at ≡ None)) →
        IsFirst rules at at
    by_case (inl (rule, less, is, there)) = (rule, rule, is, is, λ readings. refl)
    by_case (inr (past, none)) = absurd (omega (arith, below, past))

pushed_there : (xs : List ℕ) (y at first : ℕ) → slice_get (xs ++ y ∷ []) at ≡ Some first → (slice_get xs at ≡ Some first) ⊎ ((at ≡ length xs) × (first ≡ y))
pushed_there [] y zero first e = inr (refl, cc)
pushed_there [] y (suc at) first e = cc
pushed_there (x ∷ xs) y zero first e = inl e
pushed_there (x ∷ xs) y (suc at) first e = by_case (pushed_there xs y at first e)
  where
    by_case : (slice_get xs at ≡ Some first) ⊎ ((at ≡ length xs) × (first ≡ y)) → (slice_get (x ∷ xs) (suc at) ≡ Some first) ⊎ ((suc at ≡ length (x ∷ xs)) × (first ≡ y))
    by_case (inl there) = inl there
    by_case (inr (last, is)) = inr (ap suc last, is)

pub first_pushed : (rules : List Rule) (firsts new : List ℕ) (rule first : ℕ) → new ≡ firsts ++ first ∷ [] → length firsts ≡ rule → AreFirsts rules firsts → IsFirst rules first rule →
    AreFirsts rules new
first_pushed rules firsts new rule first pushed count are is at found e = by_case (pushed_there firsts first at found (subst (λ list. slice_get list at ≡ Some found) pushed e))
  where
    by_case : (slice_get firsts at ≡ Some found) ⊎ ((at ≡ length firsts) × (found ≡ first)) → IsFirst rules found at
    by_case (inl there) = are at found there
    by_case (inr (last, same)) = subst (λ n. IsFirst rules n at) (sym same) (subst (IsFirst rules first) (sym (last ∙ count)) is)

pub alike_there : (rules : List Rule) (first at : ℕ) (a b : Rule) → IsFirst rules first at → slice_get rules first ≡ Some a → slice_get rules at ≡ Some b →
    AreAlike (condition_of a.cond) (condition_of b.cond)
alike_there rules first at a b (one, other, one_is, other_is, alike) a_is b_is =
    subst (λ (x : Rule). AreAlike (condition_of x.cond) (condition_of b.cond)) (same one a (sym one_is ∙ a_is))
    (subst (λ (x : Rule). AreAlike (condition_of one.cond) (condition_of x.cond)) (same other b (sym other_is ∙ b_is)) alike)
  where
    same : (x y : Rule) → Some x ≡ Some y → x ≡ y
    same x y e = cc

pub known_alike : (rules : List Rule) (firsts : List ℕ) (i j one other : ℕ) → AreFirsts rules firsts → slice_get firsts i ≡ Some one → slice_get firsts j ≡ Some other → one ≡ other →
    (a b : Rule) → slice_get rules i ≡ Some a → slice_get rules j ≡ Some b → AreAlike (condition_of a.cond) (condition_of b.cond)
known_alike rules firsts i j one other are one_is other_is same a b a_is b_is readings =
    let first = are i one one_is in
    let second = subst (λ n. IsFirst rules n j) (sym same) (are j other other_is) in
    sym (alike_there rules one i first.0 a first first.2 a_is readings) ∙ alike_there rules one j first.0 b second first.2 b_is readings
