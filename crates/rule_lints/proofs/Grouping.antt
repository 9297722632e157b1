-- Each pair of rules that fail alike is in a group, the pairs of groups are such pairs, and no other group covers them.
use Rattle.std.proofs.Common.{◌≡◌, refl, ◌∙◌, ap, ap₂, subst, sym, ℕ, suc, ◌<◌, inl, inr, Bool, true, false, not, ◌&&◌, ◌||◌, ◌==◌, if◌then◌else◌, List, [], ◌∷◌, ◌++◌, slice_index_or, length, fold, arith}
use Rattle.std.specs.Prelude.{Contains, IsTrue}
use Rattle.std.specs.List.{AllByRecursion, AllPairs, list_any}
use Rattle.std.proofs.lemmas.List.Folds.{list_any-append}
use Rattle.std.proofs.lemmas.List.Elements.{Contains-append_right}
use Rattle.lc_model.proofs.Facts.{and_both, and_first_false, and_other, equal_itself, not_true, or_first, or_neither, or_second, or_true, test_unequal, tested_equal}
use Rattle.rule_analysis.specs.declared.finding.PairJudgement.{PairJudgement}
use Rattle.rule_analysis.specs.declared.finding.RuleJudgement.{RuleJudgement}
use Rattle.rule_analysis.specs.Findings.{IsBefore}
use Rattle.rule_lints.specs.Judged.{is_alike, is_among, is_covered, with_pair}
use Rattle.rule_lints.specs.Groups.{EachIsGrouped, GroupedAreAlike, GroupedOnce, IsInGroup}

-- ---- tests

or_map : (a b c d : Bool) → (a ≡ true → c ≡ true) → (b ≡ true → d ≡ true) → (a || b) ≡ true → (c || d) ≡ true
or_map true b c d f g e = ap (λ test. test || d) (f refl)
or_map false b c d f g e = ap (λ test. c || test) (g e) ∙ or_true c

and_map : (a b c : Bool) → (b ≡ true → c ≡ true) → (a && b) ≡ true → (a && c) ≡ true
and_map true b c f e = f e
and_map false b c f e = e

any_map : {A : Type 0} (P Q : A → Bool) (xs : List A) → ((x : A) → P x ≡ true → Q x ≡ true) → list_any P xs ≡ true → list_any Q xs ≡ true
any_map P Q [] each e = e
any_map P Q (x ∷ xs) each e = or_map (P x) (list_any P xs) (Q x) (list_any Q xs) (each x) (any_map P Q xs each) e

any_front : {A : Type 0} (P : A → Bool) (xs ys : List A) → list_any P xs ≡ true → list_any P (xs ++ ys) ≡ true
any_front P xs ys e = list_any-append P xs ys ∙ ap (λ test. test || list_any P ys) e

any_last : {A : Type 0} (P : A → Bool) (xs : List A) (y : A) → P y ≡ true → list_any P (xs ++ y ∷ []) ≡ true
any_last P xs y e =
    list_any-append P xs (y ∷ []) ∙ ap (λ test. list_any P xs || (test || false)) e ∙ or_true (list_any P xs)

-- ---- one more pair

abbrev is_pair : (first second : ℕ) → PairJudgement → Bool
is_pair first second p = (p.first == first) && (p.second == second)

abbrev covers : List PairJudgement → PairJudgement → PairJudgement → Bool
covers groups p q = (q.second == p.first) && is_among groups q.first p.second

covered_more : (groups : List PairJudgement) (q p : PairJudgement) → is_covered groups p ≡ true → is_covered (groups ++ q ∷ []) p ≡ true
covered_more groups q p e =
    any_front (covers (groups ++ q ∷ []) p) groups (q ∷ [])
    (any_map (covers groups p) (covers (groups ++ q ∷ []) p) groups
    (λ r. and_map (r.second == p.first) (is_among groups r.first p.second) (is_among (groups ++ q ∷ []) r.first p.second)
    (any_front (is_pair r.first p.second) groups (q ∷ []))) e)

stays_more : (groups : List PairJudgement) (q p : PairJudgement) → IsInGroup groups p → IsInGroup (groups ++ q ∷ []) p
stays_more groups q p e =
    or_map (is_among groups p.first p.second) (is_covered groups p) (is_among (groups ++ q ∷ []) p.first p.second) (is_covered (groups ++ q ∷ []) p)
    (any_front (is_pair p.first p.second) groups (q ∷ [])) (covered_more groups q p) e

stays : (js : List RuleJudgement) (groups : List PairJudgement) (q p : PairJudgement) → IsInGroup groups p → IsInGroup (with_pair js groups q) p
stays js groups q p e = by_test (is_alike js q && not (is_covered groups q))
  where
    by_test : (test : Bool) → IsInGroup (if test then groups ++ q ∷ [] else groups) p
    by_test true = stays_more groups q p e
    by_test false = e

-- a pair that comes is in a group then
comes : (js : List RuleJudgement) (groups : List PairJudgement) (p : PairJudgement) → IsTrue (is_alike js p) → IsInGroup (with_pair js groups p) p
comes js groups p alike = by_test (is_covered groups p) refl
  where
    grown : List PairJudgement
    grown = groups ++ p ∷ []

    itself : is_pair p.first p.second p ≡ true
    itself = ap₂ (λ a b. a && b) (equal_itself p.first) (equal_itself p.second)

    left : is_covered groups p ≡ true → groups ≡ with_pair js groups p
    left is = ap₂ (λ a b. if a && not b then groups ++ p ∷ [] else groups) (sym alike) (sym is)

    pushed : is_covered groups p ≡ false → groups ++ p ∷ [] ≡ with_pair js groups p
    pushed is = ap₂ (λ a b. if a && not b then groups ++ p ∷ [] else groups) (sym alike) (sym is)

    by_test : (test : Bool) → is_covered groups p ≡ test → IsInGroup (with_pair js groups p) p
    by_test true is =
        subst (λ (all : List PairJudgement). IsInGroup all p) (left is) (ap (λ test. is_among groups p.first p.second || test) is ∙ or_true (is_among groups p.first p.second))
    by_test false is =
        subst (λ (all : List PairJudgement). IsInGroup all p) (pushed is)
        (ap (λ test. test || is_covered (groups ++ p ∷ []) p) (any_last (is_pair p.first p.second) groups p itself))

-- ---- all pairs

stays_in_all : (js : List RuleJudgement) (groups pairs : List PairJudgement) (p : PairJudgement) → IsInGroup groups p → IsInGroup (fold (with_pair js) groups pairs) p
stays_in_all js groups [] p e = e
stays_in_all js groups (q ∷ pairs) p e = stays_in_all js (with_pair js groups q) pairs p (stays js groups q p e)

all_come : (js : List RuleJudgement) (groups pairs : List PairJudgement) →
    AllByRecursion (λ (p : PairJudgement). IsTrue (is_alike js p) → IsInGroup (fold (with_pair js) groups pairs) p) pairs
all_come js groups [] = tt
all_come js groups (p ∷ pairs) =
    (λ alike. stays_in_all js (with_pair js groups p) pairs p (comes js groups p alike), all_come js (with_pair js groups p) pairs)

pub each_is_grouped : EachIsGrouped
each_is_grouped js pairs = all_come js [] pairs

-- ---- no other pairs

push : {A : Type 0} (P : A → Type 0) (xs : List A) (y : A) → AllByRecursion P xs → P y → AllByRecursion P (xs ++ y ∷ [])
push P [] y all here = (here, tt)
push P (x ∷ xs) y all here = (all.0, push P xs y all.1 here)

-- the pair is one of these, and its rules fail alike
abbrev IsOneOf : List RuleJudgement → List PairJudgement → PairJudgement → Type 0
IsOneOf js whole p = Contains whole p × IsTrue (is_alike js p)

keeps_alike : (js : List RuleJudgement) (whole groups : List PairJudgement) (p : PairJudgement) → Contains whole p →
    AllByRecursion (IsOneOf js whole) groups → AllByRecursion (IsOneOf js whole) (with_pair js groups p)
keeps_alike js whole groups p among so_far = by_test (is_alike js p) refl
  where
    by_cover : (covered : Bool) → is_alike js p ≡ true → AllByRecursion (IsOneOf js whole) (if true && not covered then groups ++ p ∷ [] else groups)
    by_cover true alike = so_far
    by_cover false alike = push (IsOneOf js whole) groups p so_far (among, alike)

    by_test : (alike : Bool) → is_alike js p ≡ alike → AllByRecursion (IsOneOf js whole) (with_pair js groups p)
    by_test true is =
        subst (λ test. AllByRecursion (IsOneOf js whole) (if test && not (is_covered groups p) then groups ++ p ∷ [] else groups)) (sym is)
        (by_cover (is_covered groups p) is)
    by_test false is =
        subst (λ test. AllByRecursion (IsOneOf js whole) (if test && not (is_covered groups p) then groups ++ p ∷ [] else groups)) (sym is) so_far

all_alike : (js : List RuleJudgement) (whole groups pairs : List PairJudgement) → AllByRecursion (Contains whole) pairs →
    AllByRecursion (IsOneOf js whole) groups → AllByRecursion (IsOneOf js whole) (fold (with_pair js) groups pairs)
all_alike js whole groups [] among so_far = so_far
all_alike js whole groups (p ∷ pairs) among so_far =
    all_alike js whole (with_pair js groups p) pairs among.1 (keeps_alike js whole groups p among.0 so_far)

-- each stands among all
stand_among : (before rest : List PairJudgement) → AllByRecursion (Contains (before ++ rest)) rest
stand_among before [] = tt
stand_among before (p ∷ rest) = (
  Contains-append_right before (p ∷ rest) p (first_of p rest),
  subst (λ (all : List PairJudgement). AllByRecursion (Contains all) rest) (moved before p rest) (stand_among (before ++ p ∷ []) rest),
)
  where
    first_of : (p : PairJudgement) (rest : List PairJudgement) → Contains (p ∷ rest) p
    first_of p rest = (0, omega arith, refl)

    moved : (before : List PairJudgement) (p : PairJudgement) (rest : List PairJudgement) → (before ++ p ∷ []) ++ rest ≡ before ++ p ∷ rest
    moved [] p rest = refl
    moved (q ∷ before) p rest = ap (λ all. q ∷ all) (moved before p rest)

pub grouped_are_alike : GroupedAreAlike
grouped_are_alike js pairs = all_alike js pairs [] pairs (stand_among [] pairs) tt

-- ---- in no other group

abbrev IsOrdered : PairJudgement → Type 0
IsOrdered p = p.first < p.second

-- the second of two pairs comes first
abbrev ComesAfter : (p q : PairJudgement) → Type 0
ComesAfter p q = IsBefore p.first p.second q

-- the pair isn't one of a rule that covers the other pair with another one
abbrev IsApart : (q p : PairJudgement) → Type 0
IsApart q p = (r : PairJudgement) → IsOrdered r → r.second ≡ p.first → q.first ≡ r.first → q.second ≡ p.second → ⊥

free_more : (groups : List PairJudgement) (q p : PairJudgement) → AllByRecursion IsOrdered groups → IsApart q p → (q.second == p.first) ≡ false →
    is_covered groups p ≡ false → is_covered (groups ++ q ∷ []) p ≡ false
free_more groups q p ordered apart beyond free =
    list_any-append (covers (groups ++ q ∷ []) p) groups (q ∷ [])
    ∙ or_neither (list_any (covers (groups ++ q ∷ []) p) groups) (covers (groups ++ q ∷ []) p q || false) (of_all groups ordered free)
    (or_neither (covers (groups ++ q ∷ []) p q) false (and_first_false (q.second == p.first) (is_among (groups ++ q ∷ []) q.first p.second) beyond) refl)
  where
    other : (r : PairJudgement) → IsOrdered r → (r.second == p.first) ≡ true → is_pair r.first p.second q ≡ false
    other r order meets = not_true (is_pair r.first p.second q) (λ e.
        let both : ((q.first == r.first) ≡ true) × ((q.second == p.second) ≡ true) = and_both (q.first == r.first) (q.second == p.second) e in
        apart r order (tested_equal r.second p.first meets) (tested_equal q.first r.first both.0) (tested_equal q.second p.second both.1))

    among : (r : PairJudgement) → IsOrdered r → (r.second == p.first) ≡ true → is_among groups r.first p.second ≡ false →
        is_among (groups ++ q ∷ []) r.first p.second ≡ false
    among r order meets none =
        list_any-append (is_pair r.first p.second) groups (q ∷ [])
        ∙ or_neither (is_among groups r.first p.second) (is_pair r.first p.second q || false) none
        (or_neither (is_pair r.first p.second q) false (other r order meets) refl)

    of_one : (r : PairJudgement) → IsOrdered r → covers groups p r ≡ false → covers (groups ++ q ∷ []) p r ≡ false
    of_one r order none = by_test (r.second == p.first) refl
      where
        by_test : (test : Bool) → (r.second == p.first) ≡ test → covers (groups ++ q ∷ []) p r ≡ false
        by_test true is =
            ap (λ b. b && is_among (groups ++ q ∷ []) r.first p.second) is
            ∙ among r order is (and_other (r.second == p.first) (is_among groups r.first p.second) is none)
        by_test false is = and_first_false (r.second == p.first) (is_among (groups ++ q ∷ []) r.first p.second) is

    of_all : (rs : List PairJudgement) → AllByRecursion IsOrdered rs → list_any (covers groups p) rs ≡ false →
        list_any (covers (groups ++ q ∷ []) p) rs ≡ false
    of_all [] orders none = none
    of_all (r ∷ rs) orders none =
        or_neither (covers (groups ++ q ∷ []) p r) (list_any (covers (groups ++ q ∷ []) p) rs)
        (of_one r orders.0 (or_first (covers groups p r) (list_any (covers groups p) rs) none))
        (of_all rs orders.1 (or_second (covers groups p r) (list_any (covers groups p) rs) none))

after_apart : (q p : PairJudgement) → ComesAfter q p → IsApart q p
after_apart q p (inl less) r order meets first second = omega (arith, less, second)
after_apart q p (inr same) r order meets first second = omega (arith, same.1, order, meets, first)

own_apart : (q : PairJudgement) → IsApart q q
own_apart q r order meets first second = omega (arith, order, meets, first)

after_beyond : (q p : PairJudgement) → IsOrdered p → ComesAfter q p → (q.second == p.first) ≡ false
after_beyond q p order (inl less) = test_unequal q.second p.first (λ e. omega (arith, order, less, e))
after_beyond q p order (inr same) = test_unequal q.second p.first (λ e. omega (arith, order, same.0, e))

own_beyond : (q : PairJudgement) → IsOrdered q → (q.second == q.first) ≡ false
own_beyond q order = test_unequal q.second q.first (λ e. omega (arith, order, e))

-- no group covers a pair of these
abbrev IsFree : List PairJudgement → PairJudgement → Type 0
IsFree groups p = is_covered groups p ≡ false

record AreFree (groups : List PairJudgement) : Type 0 where
  ordered : AllByRecursion IsOrdered groups
  free : AllByRecursion (IsFree groups) groups

stay_free : (groups : List PairJudgement) (q : PairJudgement) → AllByRecursion IsOrdered groups → (rs : List PairJudgement) → AllByRecursion IsOrdered rs →
    AllByRecursion (ComesAfter q) rs → AllByRecursion (IsFree groups) rs → AllByRecursion (IsFree (groups ++ q ∷ [])) rs
stay_free groups q ordered [] orders after free = tt
stay_free groups q ordered (r ∷ rs) orders after free = (
  free_more groups q r ordered (after_apart q r after.0) (after_beyond q r orders.0 after.0) free.0,
  stay_free groups q ordered rs orders.1 after.1 free.1,
)

one_comes : (js : List RuleJudgement) (groups : List PairJudgement) (q : PairJudgement) → IsOrdered q → AllByRecursion (ComesAfter q) groups →
    AreFree groups → AreFree (with_pair js groups q)
one_comes js groups q order after are = by_alike (is_alike js q)
  where
    by_cover : (covered : Bool) → is_covered groups q ≡ covered → AreFree (if not covered then groups ++ q ∷ [] else groups)
    by_cover true is = are
    by_cover false is = record {
      ordered = push IsOrdered groups q are.ordered order;
      free = push (IsFree (groups ++ q ∷ [])) groups q (stay_free groups q are.ordered groups are.ordered after are.free)
          (free_more groups q q are.ordered (own_apart q) (own_beyond q order) is);
    }

    by_alike : (alike : Bool) → AreFree (if alike && not (is_covered groups q) then groups ++ q ∷ [] else groups)
    by_alike true = by_cover (is_covered groups q) refl
    by_alike false = are

after_more : (js : List RuleJudgement) (groups : List PairJudgement) (p q : PairJudgement) → ComesAfter q p → AllByRecursion (ComesAfter q) groups →
    AllByRecursion (ComesAfter q) (with_pair js groups p)
after_more js groups p q here after = by_test (is_alike js p && not (is_covered groups p))
  where
    by_test : (test : Bool) → AllByRecursion (ComesAfter q) (if test then groups ++ p ∷ [] else groups)
    by_test true = push (ComesAfter q) groups p after here
    by_test false = after

all_after_more : (js : List RuleJudgement) (groups : List PairJudgement) (p : PairJudgement) (qs : List PairJudgement) →
    AllByRecursion (λ (q : PairJudgement). ComesAfter q p) qs → AllByRecursion (λ (q : PairJudgement). AllByRecursion (ComesAfter q) groups) qs →
    AllByRecursion (λ (q : PairJudgement). AllByRecursion (ComesAfter q) (with_pair js groups p)) qs
all_after_more js groups p [] here after = tt
all_after_more js groups p (q ∷ qs) here after = (after_more js groups p q here.0 after.0, all_after_more js groups p qs here.1 after.1)

abbrev AreSorted : List PairJudgement → Type 0
AreSorted pairs = AllPairs (λ (p q : PairJudgement). ComesAfter q p) pairs

of_first : (p : PairJudgement) (pairs : List PairJudgement) →
    ((j : ℕ) (d : PairJudgement) → j < length pairs → ComesAfter (slice_index_or pairs j d) p) → AllByRecursion (λ (q : PairJudgement). ComesAfter q p) pairs
of_first p [] all = tt
of_first p (q ∷ pairs) all = (all 0 q (omega arith), of_first p pairs (λ j d below. all (suc j) d (omega (arith, below))))

all_free : (js : List RuleJudgement) (groups pairs : List PairJudgement) → AllByRecursion IsOrdered pairs → AreSorted pairs →
    AllByRecursion (λ (q : PairJudgement). AllByRecursion (ComesAfter q) groups) pairs → AreFree groups → AreFree (fold (with_pair js) groups pairs)
all_free js groups [] orders sorted after are = are
all_free js groups (p ∷ pairs) orders sorted after are =
    all_free js (with_pair js groups p) pairs orders.1
    (λ i j d less below. sorted (suc i) (suc j) d (omega (arith, less)) (omega (arith, below)))
    (all_after_more js groups p pairs (of_first p pairs (λ j d below. sorted 0 (suc j) d (omega arith) (omega (arith, below)))) after.1)
    (one_comes js groups p orders.0 after.0 are)

none_before : (pairs : List PairJudgement) → AllByRecursion (λ (q : PairJudgement). AllByRecursion (ComesAfter q) []) pairs
none_before [] = tt
none_before (p ∷ pairs) = (tt, none_before pairs)

pub grouped_once : GroupedOnce
grouped_once js pairs sorted orders =
    (all_free js [] pairs orders sorted (none_before pairs) (record { ordered = tt; free = tt })).free
