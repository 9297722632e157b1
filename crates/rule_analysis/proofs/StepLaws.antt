-- How many steps a walk takes at most.
use Rattle.std.proofs.Common.{◌≡◌, ℕ, zero, suc, ◌+◌, ◌-◌, ◌*◌, ◌^◌, ◌≤◌, ◌<◌, nat_le, Bool, true, false, not, ◌&&◌, ◌==◌, List, [], ◌∷◌, ◌++◌, length, get_or, refl, ap, sym, ◌∙◌, subst, arith, cond, Some, slice_get, if◌then◌else◌, Vec}
use Rattle.std.specs.Global.{Global}
use Rattle.std.specs.Bool.{beq}
use Rattle.std.specs.Prelude.{Contains, IsFalse, IsTrue, filter, ◌||◌}
use Rattle.std.specs.List.{AllByRecursion, list_any}
use Rattle.std.proofs.Math.Nat.{pow-succ', mul-le-mul_right}
use Rattle.std.proofs.lemmas.Nat.{pow-add, pow_pos}
use Rattle.std.proofs.lemmas.Bool.Decides.{nat_tests}
use Rattle.std.proofs.lemmas.List.Filters.{length-filter_both}
use Rattle.std.proofs.lemmas.List.Elements.{Contains-get_or, All-contains_itself, recursion_from_All}
use Rattle.lc_model.specs.declared.truth.Truth.TheVariants.{True, False}
use Rattle.lc_model.specs.declared.field.Term.{Term}
use Rattle.lc_model.specs.Condition.{Condition}
use Rattle.lc_model.specs.Tables.Equation.{mentions, distinct, same_term}
use Rattle.lc_model.proofs.LimitChecker.ResultLaws.{one_term}
use Rattle.lc_model.proofs.Tables.SensibleLaws.{all_among}
use Rattle.rule_analysis.specs.Classes.{SaysTheSame}
use Rattle.rule_analysis.specs.Steps.{NamesAll, holds_of, says_alike, AreApart, AreFewFor, AreFewByNames, IsWithin, with_number, numbered_from, AreNotMany}
use Rattle.rule_analysis.specs.Findings.{rule_steps}
use Rattle.rule_analysis.proofs.Each.{both, each}
use Rattle.rule_analysis.proofs.WalkLaws.{decided, there_before, there_last}

-- ---- what comparisons say alike

and_parts : (a b : Bool) → (a && b) ≡ true → (a ≡ true) × (b ≡ true)
and_parts true b e = (refl, e)
and_parts false b e = cc

one_bool : (a b : Bool) → beq a b ≡ true → a ≡ b
one_bool true true e = refl
one_bool false false e = refl
one_bool true false e = cc
one_bool false true e = cc

rest_differs : (a b rest : Bool) → a ≡ b → (beq a b && rest) ≡ false → rest ≡ false
rest_differs true true rest e d = d
rest_differs false false rest e d = d
rest_differs true false rest e d = cc
rest_differs false true rest e d = cc

pub alike_says_same : (terms : List Term) (one other : ℕ) → says_alike terms one other ≡ true → AllByRecursion (λ t. SaysTheSame t one other) terms
alike_says_same [] one other e = tt
alike_says_same (t ∷ terms) one other e =
    let parts = and_parts (beq (holds_of t one) (holds_of t other)) (says_alike terms one other) e in
    (ap (λ holds. if holds then True else False) (one_bool _ _ parts.0), alike_says_same terms one other parts.1)

pub alike_equal : (terms : List Term) (one other : ℕ) → one ≡ other → true ≡ says_alike terms one other
alike_equal [] one other same = refl
alike_equal (t ∷ terms) one other same = alike_equal terms one other same ∙ ap (λ b. b && says_alike terms one other) (sym itself)
  where
    of_one_bool : (b : Bool) → beq b b ≡ true
    of_one_bool true = refl
    of_one_bool false = refl

    itself : beq (holds_of t one) (holds_of t other) ≡ true
    itself = subst (λ n. beq (holds_of t one) (holds_of t n) ≡ true) same (of_one_bool (holds_of t one))

pub apart_more : (terms : List Term) (kept : List ℕ) (bits : ℕ) → AreApart terms kept →
    AllByRecursion (λ candidate. IsFalse (says_alike terms candidate bits)) kept → AreApart terms (kept ++ bits ∷ [])
unfolding AreApart
apart_more terms [] bits apart all = (tt, tt)
apart_more terms (k ∷ kept) bits apart all =
    (both (λ other. IsFalse (says_alike terms k other)) kept (bits ∷ []) apart.0 (all.0, tt), apart_more terms kept bits apart.1 all.1)

-- ---- lists that name the same comparisons

alike_at : (named : List Term) (t : Term) (one other k : ℕ) → k < length named → get_or named k t ≡ t → says_alike named one other ≡ true →
    beq (holds_of t one) (holds_of t other) ≡ true
alike_at [] t one other k below is alike = absurd (omega (arith, below))
alike_at (u ∷ named) t one other zero below is alike =
    subst (λ v. beq (holds_of v one) (holds_of v other) ≡ true) is (and_parts (beq (holds_of u one) (holds_of u other)) (says_alike named one other) alike).0
alike_at (u ∷ named) t one other (suc k) below is alike =
    alike_at named t one other k (omega (arith, below)) is (and_parts (beq (holds_of u one) (holds_of u other)) (says_alike named one other) alike).1

alike_of_named : (named terms : List Term) (one other : ℕ) → NamesAll named terms → says_alike named one other ≡ true → says_alike terms one other ≡ true
alike_of_named named [] one other all alike = refl
alike_of_named named (t ∷ terms) one other all alike =
    together (alike_at named t one other all.0.0 all.0.1 all.0.2 alike) (alike_of_named named terms one other all.1 alike)
  where
    together : beq (holds_of t one) (holds_of t other) ≡ true → says_alike terms one other ≡ true → says_alike (t ∷ terms) one other ≡ true
    together here there = ap (λ b. b && says_alike terms one other) here ∙ there

differ_named : (named terms : List Term) (one other : ℕ) → NamesAll named terms → says_alike terms one other ≡ false → says_alike named one other ≡ false
differ_named named terms one other all differ = by_test (says_alike named one other) refl
  where
    by_test : (test : Bool) → says_alike named one other ≡ test → says_alike named one other ≡ false
    by_test true e = absurd (contradict (sym (alike_of_named named terms one other all e) ∙ differ))
      where
        contradict : true ≡ false → ⊥
        contradict h = cc
    by_test false e = e

apart_named : (named terms : List Term) (kept : List ℕ) → NamesAll named terms → AreApart terms kept → AreApart named kept
unfolding AreApart
apart_named named terms [] all apart = tt
apart_named named terms (k ∷ kept) all apart = (each_differs kept apart.0, apart_named named terms kept all apart.1)
  where
    each_differs : (others : List ℕ) → AllByRecursion (λ other. IsFalse (says_alike terms k other)) others →
        AllByRecursion (λ other. IsFalse (says_alike named k other)) others
    each_differs [] differ = tt
    each_differs (o ∷ others) differ = (differ_named named terms k o all differ.0, each_differs others differ.1)

-- ---- as many numbers as n comparisons can tell apart

differ_behind : (t : Term) (terms : List Term) (value : Bool) (q : ℕ → Bool) (is : (bits : ℕ) → q bits ≡ true → holds_of t bits ≡ value) (k : ℕ) → q k ≡ true →
    (others : List ℕ) → AllByRecursion (λ other. IsFalse (says_alike (t ∷ terms) k other)) others →
    AllByRecursion (λ other. IsFalse (says_alike terms k other)) (filter q others)
differ_behind t terms value q is k here [] all = tt
differ_behind t terms value q is k here (o ∷ others) all = by_test (differ_behind t terms value q is k here others all.1) (q o) refl
  where
    by_test : AllByRecursion (λ other. IsFalse (says_alike terms k other)) (filter q others) → (test : Bool) → q o ≡ test →
        AllByRecursion (λ other. IsFalse (says_alike terms k other)) (cond test (o ∷ filter q others) (filter q others))
    by_test later true e =
        (rest_differs (holds_of t k) (holds_of t o) (says_alike terms k o) (is k here ∙ sym (is o e)) all.0, later)
    by_test later false e = later

apart_behind : (t : Term) (terms : List Term) (value : Bool) (q : ℕ → Bool) (is : (bits : ℕ) → q bits ≡ true → holds_of t bits ≡ value) (kept : List ℕ) →
    AreApart (t ∷ terms) kept → AreApart terms (filter q kept)
unfolding AreApart
apart_behind t terms value q is [] apart = tt
apart_behind t terms value q is (k ∷ kept) apart = by_test (apart_behind t terms value q is kept apart.1) (q k) refl
  where
    by_test : AreApart terms (filter q kept) → (test : Bool) → q k ≡ test → AreApart terms (cond test (k ∷ filter q kept) (filter q kept))
    by_test later true e = (differ_behind t terms value q is k e kept apart.0, later)
    by_test later false e = later

not_true : (b : Bool) → not b ≡ true → b ≡ false
not_true true e = cc
not_true false e = refl

pub as_many : (terms : List Term) (kept : List ℕ) → AreApart terms kept → length kept ≤ 2 ^ length terms
unfolding AreApart
as_many [] [] apart = omega arith
as_many [] (k ∷ []) apart = omega arith
as_many [] (k ∷ l ∷ kept) apart = absurd (contradict apart.0.0)
  where
    contradict : true ≡ false → ⊥
    contradict h = cc
as_many (t ∷ terms) kept apart =
    let hold = as_many terms (filter (λ bits. holds_of t bits) kept) (apart_behind t terms true (λ bits. holds_of t bits) (λ bits e. e) kept apart) in
    let miss = as_many terms (filter (λ bits. not (holds_of t bits)) kept)
    (apart_behind t terms false (λ bits. not (holds_of t bits)) (λ bits e. not_true (holds_of t bits) e) kept apart) in
    let sum = length-filter_both (λ bits. holds_of t bits) (λ bits. not (holds_of t bits)) (λ bits. refl) kept in
    let double = pow-succ' 2 (length terms) in
    omega (arith, hold, miss, sum, double)

-- ---- by fields

contains_filtered : (p : Term → Bool) (named : List Term) (t : Term) → Contains named t → p t ≡ true → Contains (filter p named) t
contains_filtered p [] t has e = absurd (omega (arith, has.1))
contains_filtered p (u ∷ named) t (zero, below, is) e = by_test (p u) (ap p is ∙ e)
  where
    by_test : (test : Bool) → test ≡ true → Contains (cond test (u ∷ filter p named) (filter p named)) t
    by_test true h = (0, omega arith, is)
    by_test false h = cc
contains_filtered p (u ∷ named) t (suc k, below, is) e = by_test (contains_filtered p named t (k, omega (arith, below), is) e) (p u)
  where
    by_test : Contains (filter p named) t → (test : Bool) → Contains (cond test (u ∷ filter p named) (filter p named)) t
    by_test later true = (suc later.0, omega (arith, later.1), later.2)
    by_test later false = later

names_filtered : (p : Term → Bool) (named terms : List Term) → NamesAll named terms → NamesAll (filter p named) (filter p terms)
names_filtered p named [] all = tt
names_filtered p named (t ∷ terms) all = by_test (names_filtered p named terms all.1) (p t) refl
  where
    by_test : NamesAll (filter p named) (filter p terms) → (test : Bool) → p t ≡ test → NamesAll (filter p named) (cond test (t ∷ filter p terms) (filter p terms))
    by_test later true e = (contains_filtered p named t all.0 e, later)
    by_test later false e = later

-- one row more
pub not_many_more : (number : Term → ℕ) (terms : List Term) (rows : List (Vec ℕ Global)) (row : Vec ℕ Global) (field : ℕ) → length rows ≡ field →
    AreNotMany number terms rows → AreApart (filter (λ t. number t == field) terms) row.items → AreNotMany number terms (rows ++ row ∷ [])
not_many_more number terms rows row field long so_far apart named names at there e = decided at (length rows)
    (λ same. subst (λ (r : Vec ℕ Global). length r.items ≤ 2 ^ length (with_number number named at))
    (there_last rows row there (subst (λ k. slice_get (rows ++ row ∷ []) k ≡ Some there) same e))
    (subst (λ k. length row.items ≤ 2 ^ length (with_number number named k)) (sym (same ∙ long)) here))
    (λ other. so_far named names at there (there_before rows row at there e other))
  where
    here : length row.items ≤ 2 ^ length (with_number number named field)
    here = as_many (with_number number named field) row.items
        (apart_named (with_number number named field) (filter (λ t. number t == field) terms) row.items
        (names_filtered (λ t. number t == field) named terms names) apart)

-- ---- the fields that are left

pub all_are_left : (number : Term → ℕ) (named : List Term) → numbered_from number named 0 ≡ named
all_are_left number [] = refl
all_are_left number (t ∷ named) =
    ap (λ test. cond test (t ∷ numbered_from number named 0) (numbered_from number named 0)) from_none ∙ ap (λ ts. t ∷ ts) (all_are_left number named)
  where
    from_none : nat_le 0 (number t) ≡ true
    from_none = grind (arith, nat_tests)

one_less : (number : Term → ℕ) (named : List Term) (from : ℕ) →
    length (numbered_from number named from) ≡ length (with_number number named from) + length (numbered_from number named (suc from))
one_less number [] from = refl
one_less number (t ∷ named) from = by_tests (one_less number named from) (nat_le from (number t)) (number t == from) (nat_le (suc from) (number t)) refl refl refl
  where
    n : ℕ
    n = number t

    here_is_from : (number t == from) ≡ true → nat_le from (number t) ≡ false → ⊥
    here_is_from e f = grind (arith, nat_tests)

    here_not_behind : (number t == from) ≡ true → nat_le (suc from) (number t) ≡ true → ⊥
    here_not_behind e f = grind (arith, nat_tests)

    behind_is_from : nat_le from (number t) ≡ false → nat_le (suc from) (number t) ≡ true → ⊥
    behind_is_from e f = grind (arith, nat_tests)

    from_is_one : nat_le from (number t) ≡ true → (number t == from) ≡ false → nat_le (suc from) (number t) ≡ false → ⊥
    from_is_one e f g = grind (arith, nat_tests)

    by_tests : length (numbered_from number named from) ≡ length (with_number number named from) + length (numbered_from number named (suc from)) →
        (a b c : Bool) → nat_le from (number t) ≡ a → (number t == from) ≡ b → nat_le (suc from) (number t) ≡ c →
        length (cond a (t ∷ numbered_from number named from) (numbered_from number named from))
        ≡ length (cond b (t ∷ with_number number named from) (with_number number named from))
        + length (cond c (t ∷ numbered_from number named (suc from)) (numbered_from number named (suc from)))
    by_tests later true true false ea eb ec = omega (arith, later)
    by_tests later true false true ea eb ec = omega (arith, later)
    by_tests later false false false ea eb ec = later
    by_tests later true true true ea eb ec = absurd (here_not_behind eb ec)
    by_tests later false true c ea eb ec = absurd (here_is_from eb ea)
    by_tests later false false true ea eb ec = absurd (behind_is_from ea ec)
    by_tests later true false false ea eb ec = absurd (from_is_one ea eb ec)

-- ---- steps

pub some_ways : (number : Term → ℕ) (named : List Term) (from now : ℕ) → now < now + 2 ^ length (numbered_from number named from)
some_ways number named from now = omega (arith, pow_pos (length (numbered_from number named from)))

-- one candidate more was tried
pub one_further : (old now after k s b : ℕ) → old + k < now + k * b + s → now < after + b → old + (k + 1) < after + (k + 1) * b + s
one_further old now after k s b so_far took = omega (arith, so_far, took)

at_least : (d b : ℕ) → 0 < b → d ≤ d * b
at_least zero b some = omega arith
at_least (suc d) b some = omega (arith, at_least d b some)

-- so many were tried, and no more need be
pub from_here : (old new k d b : ℕ) → 0 < b → old + k < new + k * b + (k + d) → old < new + (k + d) * b
from_here old new k d b some so_far = omega (arith, so_far, at_least d b some)

pub within : (number : Term → ℕ) (named : List Term) (from s old new : ℕ) → s ≤ 2 ^ length (with_number number named from) →
    old < new + s * 2 ^ length (numbered_from number named (suc from)) → old < new + 2 ^ length (numbered_from number named from)
within number named from s old new few took =
    let more = mul-le-mul_right (2 ^ length (numbered_from number named (suc from))) few in
    let powers = pow-add 2 (length (with_number number named from)) (length (numbered_from number named (suc from))) in
    let size = ap (λ n. 2 ^ n) (one_less number named from) in
    omega (arith, took, more, powers, size)

-- what is pushed behind the fields so far is the next one
pub next_size : (chosen now pushed : List ℕ) (x : ℕ) → now ≡ chosen → pushed ≡ now ++ x ∷ [] → length pushed ≡ suc (length chosen)
next_size chosen now pushed x same pushes = ap length pushes ∙ longer now x ∙ ap (λ xs. suc (length xs)) same
  where
    longer : (xs : List ℕ) (y : ℕ) → length (xs ++ y ∷ []) ≡ suc (length xs)
    longer [] y = refl
    longer (z ∷ xs) y = ap suc (longer xs y)

pub stepped : (number : Term → ℕ) (named : List Term) (chosen now pushed : List ℕ) (x k s old before after : ℕ) → now ≡ chosen → pushed ≡ now ++ x ∷ [] →
    old + k < before + k * 2 ^ length (numbered_from number named (suc (length chosen))) + s →
    before < after + 2 ^ length (numbered_from number named (length pushed)) →
    old + (k + 1) < after + (k + 1) * 2 ^ length (numbered_from number named (suc (length chosen))) + s
stepped number named chosen now pushed x k s old before after same pushes so_far took =
    one_further old before after k s (2 ^ length (numbered_from number named (suc (length chosen)))) so_far
    (subst (λ n. before < after + 2 ^ length (numbered_from number named n)) (next_size chosen now pushed x same pushes) took)

there : {A : Type 0} (xs : List A) (k : ℕ) (d : A) → k < length xs → slice_get xs k ≡ Some (get_or xs k d)
there [] k d below = absurd (omega arith)
there (x ∷ xs) zero d below = refl
there (x ∷ xs) (suc k) d below = there xs k d (omega arith)

-- the row's own bound
row_bound : (number : Term → ℕ) (named : List Term) (rows : List (Vec ℕ Global)) (chosen items : List ℕ) (row : Vec ℕ Global) (at : ℕ) →
    ((field : ℕ) (r : Vec ℕ Global) → slice_get rows field ≡ Some r → length r.items ≤ 2 ^ length (with_number number named field)) →
    at ≡ length chosen → at < length rows → row ≡ get_or rows at row → items ≡ row.items →
    length items ≤ 2 ^ length (with_number number named (length chosen))
row_bound number named rows chosen items row at few is inside found same =
    subst (λ field. length items ≤ 2 ^ length (with_number number named field)) is
    (subst (λ list. length list ≤ 2 ^ length (with_number number named at)) (sym same) (few at row (there rows at row inside ∙ ap Some (sym found))))

pub ended : (number : Term → ℕ) (named : List Term) (rows : List (Vec ℕ Global)) (chosen now pushed items : List ℕ) (row : Vec ℕ Global) (at x k old before after : ℕ) →
    ((field : ℕ) (r : Vec ℕ Global) → slice_get rows field ≡ Some r → length r.items ≤ 2 ^ length (with_number number named field)) →
    at ≡ length chosen → at < length rows → row ≡ get_or rows at row → items ≡ row.items → k < length items → now ≡ chosen → pushed ≡ now ++ x ∷ [] →
    (1 ≤ length items → old + k < before + k * 2 ^ length (numbered_from number named (suc (length chosen))) + length items) →
    before < after + 2 ^ length (numbered_from number named (length pushed)) →
    old < after + 2 ^ length (numbered_from number named (length chosen))
ended number named rows chosen now pushed items row at x k old before after few is inside found same below stays pushes so_far took =
    within number named (length chosen) (length items) old after (row_bound number named rows chosen items row at few is inside found same)
    (subst (λ s. old < after + s * B) size (from_here old after (k + 1) (length items - (k + 1)) B (pow_pos (length (numbered_from number named (suc (length chosen)))))
    (subst (λ s. old + (k + 1) < after + (k + 1) * B + s) (sym size) further)))
  where
    B : ℕ
    B = 2 ^ length (numbered_from number named (suc (length chosen)))

    size : (k + 1) + (length items - (k + 1)) ≡ length items
    size = omega (arith, below)

    further : old + (k + 1) < after + (k + 1) * B + length items
    further = stepped number named chosen now pushed x k (length items) old before after stays pushes (so_far (omega (arith, below))) took

pub all_stepped : (number : Term → ℕ) (named : List Term) (rows : List (Vec ℕ Global)) (chosen items : List ℕ) (row : Vec ℕ Global) (at k old now : ℕ) →
    ((field : ℕ) (r : Vec ℕ Global) → slice_get rows field ≡ Some r → length r.items ≤ 2 ^ length (with_number number named field)) →
    at ≡ length chosen → at < length rows → row ≡ get_or rows at row → items ≡ row.items → k ≡ length items →
    (1 ≤ length items → old + k < now + k * 2 ^ length (numbered_from number named (suc (length chosen))) + length items) →
    (length items ≡ 0 → now ≡ old) →
    old < now + 2 ^ length (numbered_from number named (length chosen))
all_stepped number named rows chosen items row at k old now few is inside found same all so_far still = by_size (length items) refl
  where
    B : ℕ
    B = 2 ^ length (numbered_from number named (suc (length chosen)))

    by_size : (s : ℕ) → length items ≡ s → old < now + 2 ^ length (numbered_from number named (length chosen))
    by_size zero e = omega (arith, still e, some_ways number named (length chosen) now)
    by_size (suc s) e =
        let some = so_far (omega (arith, e)) in
        within number named (length chosen) (length items) old now (row_bound number named rows chosen items row at few is inside found same)
        (subst (λ n. old < now + n * B) all (omega (arith, some, all)))

-- no step was taken
pub not_stepped : (number : Term → ℕ) (named : List Term) (from k s old now : ℕ) →
    old + k < now + k * 2 ^ length (numbered_from number named from) + s →
    old + (k + 1) < now + (k + 1) * 2 ^ length (numbered_from number named from) + s
not_stepped number named from k s old now so_far =
    one_further old now now k s (2 ^ length (numbered_from number named from)) so_far (some_ways number named from now)

-- ---- candidates

pub represented_at : (terms : List Term) (kept : List ℕ) (i d bits : ℕ) (alike : Bool) → i < length kept → alike ≡ says_alike terms (get_or kept i d) bits → alike ≡ true →
    (candidate : ℕ) × Contains kept candidate × AllByRecursion (λ t. SaysTheSame t candidate bits) terms
represented_at terms kept i d bits alike below is holds =
    (get_or kept i d, Contains-get_or kept i d below, alike_says_same terms (get_or kept i d) bits (sym is ∙ holds))

pub none_is_apart : (terms : List Term) (kept : List ℕ) → kept ≡ [] → AreApart terms kept
unfolding AreApart
none_is_apart terms kept none = subst (AreApart terms) (sym none) tt

-- ---- decisions

pub few_for : (number : Term → ℕ) (c : Condition) (chosen : List ℕ) (before after : ℕ) → chosen ≡ [] → after ≡ 0 → IsWithin number (mentions c) (length chosen) before after →
    AreFewByNames c before
few_for number c chosen before after start none took named names =
    let left = ap length (all_are_left number named) in
    let from = subst (λ (xs : List ℕ). before < after + 2 ^ length (numbered_from number named (length xs))) start (took named names) in
    subst (λ n. before < 2 ^ n) left (omega (arith, from, none))

-- fewer steps are too few, too
pub fewer_are_few : (c : Condition) (steps fewer : ℕ) → fewer ≤ steps → AreFewByNames c steps → AreFewByNames c fewer
fewer_are_few c steps fewer less few named names = omega (arith, less, few named names)

names_itself : (xs : List Term) → NamesAll xs xs
names_itself xs = recursion_from_All (Contains xs) xs (All-contains_itself xs)

-- one comparison takes few
pub one_is_decided : (c : Condition) → length (mentions c) ≡ 1 → AreFewByNames c rule_steps → ⊥
one_is_decided c one few =
    let below = few (mentions c) (names_itself (mentions c)) in
    let small : 2 ^ length (mentions c) ≡ 2 = ap (λ n. 2 ^ n) one in
    absurd (omega (arith, below, small))

among_is_named : (xs : List Term) (t : Term) → IsTrue (list_any (same_term t) xs) → Contains xs t
among_is_named [] t among = cc
among_is_named (u ∷ xs) t among = by_test (among_is_named xs t) (same_term t u) refl among
  where
    by_test : (IsTrue (list_any (same_term t) xs) → Contains xs t) → (test : Bool) → same_term t u ≡ test → IsTrue (test || list_any (same_term t) xs) → Contains (u ∷ xs) t
    by_test later true e h = (0, omega arith, sym (one_term t u e))
    by_test later false e h = let found = later h in (suc found.0, omega (arith, found.1), found.2)

pub names_distinct : (terms : List Term) → NamesAll (distinct terms) terms
names_distinct terms = each terms (λ t among. among_is_named (distinct terms) t among) (all_among terms)

pub few_by_distinct : (c : Condition) (steps : ℕ) → AreFewByNames c steps → AreFewFor c steps
few_by_distinct c steps few = few (distinct (mentions c)) (names_distinct (mentions c))
