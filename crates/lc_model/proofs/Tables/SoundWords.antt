-- The tests of an equation's words pass exactly where they spell a condition.
use Rattle.std.proofs.Common.{◌≡◌, refl, sym, ◌∙◌, ap, ℕ, zero, suc, ◌+◌, ◌<◌, ◌≤◌, ◌⊎◌, inl, inr, Bool, true, false, not, ◌&&◌, ◌||◌, List, [], ◌∷◌, ◌++◌, length, take, None, nat_lt, nat_le, ◌==◌, arith, append-nil, append_assoc}
use Rattle.std.specs.List.{list_any, AllByRecursion}
use Rattle.std.specs.Int.{is_in_range}
use Rattle.std.proofs.lemmas.Bool.{cases_lt}
use Rattle.lc_model.specs.Condition.{Operator, And, Or, Xor}
use Rattle.lc_model.specs.Codes.{table_entries}
use Rattle.lc_model.specs.Tables.Equation.{IsEquation, mention, negation, binary, operator_word, not_word, equal_word, waiting}
use Rattle.lc_model.specs.Tables.Image.{first_code, with_words_before, operands_of, equation_tests, most_waiting}
use Rattle.lc_model.specs.Laws.Equations.{SoundWordsSpell}
use Rattle.lc_model.proofs.Tables.Waiting.{mentions, binaries, mentions-append, binaries-append, waiting_is, empty_counts, Profile, profile}
use Rattle.lc_model.proofs.Facts.{or_first, or_second, or_neither, test_not_less, tested_not_less}

-- ---- tests in a row

pub none_stands : (tests : List (Bool × ℕ)) → first_code tests ≡ None → AllByRecursion (λ t. t.0 ≡ false) tests
none_stands [] e = tt
none_stands (t ∷ ts) e = go t.0 refl (none_stands ts)
  where
    go : (b : Bool) → t.0 ≡ b → (first_code ts ≡ None → AllByRecursion (λ t. t.0 ≡ false) ts) → AllByRecursion (λ t. t.0 ≡ false) (t ∷ ts)
    go true is others = absurd (cc (rw is at e))
    go false is others = (is, others (rw is at e))

pub stands_none : (tests : List (Bool × ℕ)) → AllByRecursion (λ t. t.0 ≡ false) tests → first_code tests ≡ None
stands_none [] none = refl
stands_none (t ∷ ts) none = rw none.0 (stands_none ts none.1)

-- ---- lists of tests

pub list_any-append : {A : Type 0} (p : A → Bool) (xs ys : List A) → list_any p (xs ++ ys) ≡ (list_any p xs || list_any p ys)
list_any-append p [] ys = refl
list_any-append p (x ∷ xs) ys = go (p x) (list_any-append p xs ys)
  where
    go : (b : Bool) → list_any p (xs ++ ys) ≡ (list_any p xs || list_any p ys) → (b || list_any p (xs ++ ys)) ≡ ((b || list_any p xs) || list_any p ys)
    go true e = refl
    go false e = e

-- ---- tests of numbers

-- what a word of an equation is
pub data IsWord (count : ℕ) : ℕ → Type 0 where
  number : {w : ℕ} → w < count → IsWord count w
  negated : IsWord count not_word
  joined : (o : Operator) → IsWord count (operator_word o)

one_of_four : (count w : ℕ) → 0xFF01 ≤ w → w ≤ 0xFF04 → IsWord count w
one_of_four count w low high = go (cases_lt w 0xFF02) (cases_lt w 0xFF03) (cases_lt w 0xFF04)
  where
    go : (w < 0xFF02) ⊎ (0xFF02 ≤ w) → (w < 0xFF03) ⊎ (0xFF03 ≤ w) → (w < 0xFF04) ⊎ (0xFF04 ≤ w) → IsWord count w
    go (inl a) b c = let e : w ≡ 0xFF01 = omega (arith, low, a) in rw e (joined And)
    go (inr a) (inl b) c = let e : w ≡ 0xFF02 = omega (arith, a, b) in rw e (joined Or)
    go (inr a) (inr b) (inl c) = let e : w ≡ 0xFF03 = omega (arith, b, c) in rw e (joined Xor)
    go (inr a) (inr b) (inr c) = let e : w ≡ 0xFF04 = omega (arith, high, c) in rw e negated

in_range : (count w : ℕ) → not (is_in_range 0xFF01 0xFF04 w) ≡ false → IsWord count w
in_range count w h = go (cases_lt w 0xFF01) (cases_lt 0xFF04 w)
  where
    go : (w < 0xFF01) ⊎ (0xFF01 ≤ w) → (0xFF04 < w) ⊎ (w ≤ 0xFF04) → IsWord count w
    go (inl less) b = let is : nat_le 0xFF01 w ≡ false = grind (arith, less) in absurd (cc (rw is at h))
    go (inr low) (inl more) =
        let is : nat_le 0xFF01 w ≡ true = grind (arith, low) in
        let is_not : nat_le w 0xFF04 ≡ false = grind (arith, more) in
        absurd (cc (rw (is, is_not) at h))
    go (inr low) (inr high) = one_of_four count w low high

pub classified : (count w : ℕ) → not (nat_lt w table_entries || is_in_range 0xFF01 0xFF04 w) ≡ false →
    (nat_lt w table_entries && nat_le count w) ≡ false → IsWord count w
classified count w known below = go (cases_lt w count)
  where
    operator : (w < 176) ⊎ (176 ≤ w) → count ≤ w → IsWord count w
    operator (inl small) more =
        let a : nat_lt w 176 ≡ true = grind (arith, small) in
        let b : nat_le count w ≡ true = grind (arith, more) in
        absurd (cc (rw (a, b) at below))
    operator (inr great) more = let a : nat_lt w 176 ≡ false = grind (arith, great) in in_range count w (rw a at known)

    go : (w < count) ⊎ (count ≤ w) → IsWord count w
    go (inl less) = number less
    go (inr more) = operator (cases_lt w 176) more

-- ---- words that pass the tests

-- the words are so many equations, one behind the other
data Forest (count : ℕ) : List ℕ → ℕ → Type 0 where
  empty : Forest count [] zero
  tree : {ws us : List ℕ} {n k : ℕ} → Forest count ws n → IsEquation count us k → Forest count (ws ++ us) (suc n)

forest_waits : (count : ℕ) → count ≤ table_entries → {ws : List ℕ} {n : ℕ} → Forest count ws n → mentions ws ≡ binaries ws + n
forest_waits count most empty = omega (arith, empty_counts.0, empty_counts.1)
forest_waits count most (tree {ws = ws} {us = us} f e) =
    omega (arith, forest_waits count most f, (profile count most e).whole, mentions-append ws us, binaries-append ws us)

negate_last : {count : ℕ} {ws : List ℕ} {n : ℕ} → Forest count ws (suc n) → Forest count (ws ++ not_word ∷ []) (suc n)
negate_last (tree {ws = ws} {us = us} f e) = rw (append_assoc ws us (not_word ∷ [])) (tree f (negation e))

join_last : {count : ℕ} {ws : List ℕ} {n : ℕ} (o : Operator) → Forest count ws (suc (suc n)) → Forest count (ws ++ operator_word o ∷ []) (suc n)
join_last o (tree {us = vs} (tree {ws = ws} {us = us} f e) g) =
    rw (append_assoc (ws ++ us) vs (operator_word o ∷ []), append_assoc ws us (vs ++ operator_word o ∷ []), sym (append_assoc us vs (operator_word o ∷ [])))
    (tree f (binary o e g))

single : {count : ℕ} {ws : List ℕ} → Forest count ws 1 → (k : ℕ) × IsEquation count ws k
single (tree empty e) = (_, e)

-- ---- each test of a word

abbrev pub unknown : ℕ → Bool
unknown w = not (nat_lt w table_entries || is_in_range 0xFF01 0xFF04 w)

abbrev pub missing : ℕ → ℕ → Bool
missing count w = nat_lt w table_entries && nat_le count w

abbrev pub too_few : List ℕ × ℕ → Bool
too_few s = nat_lt (waiting s.0) (operands_of s.1)

abbrev pub too_many : List ℕ × ℕ → Bool
too_many s = nat_lt most_waiting (waiting s.0)

pub operator_operands : (o : Operator) → operands_of (operator_word o) ≡ 2
operator_operands And = refl
operator_operands Or = refl
operator_operands Xor = refl

module _ (count : ℕ) (most : count ≤ table_entries) where
  -- one word more
  step : {before : List ℕ} {n w : ℕ} → Forest count before n → IsWord count w → nat_lt (waiting before) (operands_of w) ≡ false →
      (m : ℕ) × Forest count (before ++ w ∷ []) m
  step {n = n} f (number below) enough = (suc n, tree f (mention below))
  step {before = before} {n = n} f negated enough = go n f (omega (arith, forest_waits count most f, waiting_is before, tested_not_less (waiting before) 1 enough))
    where
      go : (n : ℕ) → Forest count before n → 1 ≤ n → (m : ℕ) × Forest count (before ++ not_word ∷ []) m
      go zero f h = absurd (omega (arith, h))
      go (suc n) f h = (suc n, negate_last f)
  step {before = before} {n = n} f (joined o) enough =
      go n f (omega (arith, forest_waits count most f, waiting_is before, tested_not_less (waiting before) 2 (rw (operator_operands o) at enough)))
    where
      go : (n : ℕ) → Forest count before n → 2 ≤ n → (m : ℕ) × Forest count (before ++ operator_word o ∷ []) m
      go zero f h = absurd (omega (arith, h))
      go (suc zero) f h = absurd (omega (arith, h))
      go (suc (suc n)) f h = (suc n, join_last o f)

  -- all words
  grown : (ws before : List ℕ) (n : ℕ) → Forest count before n → list_any unknown ws ≡ false → list_any (missing count) ws ≡ false →
      list_any too_few (with_words_before before (ws ++ equal_word ∷ [])) ≡ false → (m : ℕ) × Forest count (before ++ ws) (suc m)
  grown [] before n f known there enough =
      go n f (omega (arith, forest_waits count most f, waiting_is before, tested_not_less (waiting before) 1 (or_first _ _ enough)))
    where
      go : (n : ℕ) → Forest count before n → 1 ≤ n → (m : ℕ) × Forest count (before ++ []) (suc m)
      go zero f h = absurd (omega (arith, h))
      go (suc n) f h = (n, rw (append-nil before) f)
  grown (w ∷ ws) before n f known there enough =
      let one : (m : ℕ) × Forest count (before ++ w ∷ []) m =
      step f (classified count w (or_first (unknown w) _ known) (or_first (missing count w) _ there)) (or_first (too_few (before, w)) _ enough) in
      let all : (m : ℕ) × Forest count (before ++ w ∷ [] ++ ws) (suc m) =
      grown ws (before ++ w ∷ []) one.0 one.1 (or_second (unknown w) _ known) (or_second (missing count w) _ there) (or_second (too_few (before, w)) _ enough) in
      (all.0, rw (append_assoc before (w ∷ []) ws) at all.1)

-- what no step shows, no front shows
pub each_front : (P : List ℕ → Bool) (x : ℕ) (ws before : List ℕ) (n : ℕ) →
    list_any (λ (s : List ℕ × ℕ). P s.0) (with_words_before before (ws ++ x ∷ [])) ≡ false → n ≤ length ws → P (before ++ take n ws) ≡ false
each_front P x [] before zero h few = rw (append-nil before) (or_first (P before) _ h)
each_front P x [] before (suc n) h few = absurd (omega (arith, few))
each_front P x (w ∷ ws) before zero h few = rw (append-nil before) (or_first (P before) _ h)
each_front P x (w ∷ ws) before (suc n) h few =
    let others : P (before ++ w ∷ [] ++ take n ws) ≡ false =
    each_front P x ws (before ++ w ∷ []) n (or_second (P before) _ h) (omega (arith, few)) in
    rw (append_assoc before (w ∷ []) (take n ws)) at others

spelled_by_tests : (count : ℕ) (ws : List ℕ) → count ≤ table_entries → AllByRecursion (λ t. t.0 ≡ false) (equation_tests count ws) →
    (k : ℕ) × (k ≤ most_waiting) × IsEquation count ws k
spelled_by_tests count ws most tests = go grove.0 grove.1
  where
    grove : (m : ℕ) × Forest count ws (suc m)
    grove = grown count most ws [] zero empty tests.0 tests.1.0 tests.1.1.0

    few : (k : ℕ) → IsEquation count ws k → k ≤ most_waiting
    few k e =
        let p : Profile ws k = profile count most e in
        let waits : nat_lt most_waiting (waiting (take p.top.0 ws)) ≡ false =
        each_front (λ us. nat_lt most_waiting (waiting us)) equal_word ws [] p.top.0 tests.1.1.1.0 p.top.1 in
        omega (arith, tested_not_less most_waiting (waiting (take p.top.0 ws)) waits, waiting_is (take p.top.0 ws), p.top.2)

    go : (m : ℕ) → Forest count ws (suc m) → (k : ℕ) × (k ≤ most_waiting) × IsEquation count ws k
    go zero f = let one : (k : ℕ) × IsEquation count ws k = single f in (one.0, few one.0 one.1, one.1)
    go (suc m) f = absurd (omega (arith, forest_waits count most f, waiting_is ws, tested_not_less 1 (waiting ws) tests.1.1.1.1.0))

-- ---- words that spell a condition

-- what no word of an equation shows
no_word : (p : ℕ → Bool) (count : ℕ) → ((n : ℕ) → n < count → p n ≡ false) → p not_word ≡ false → ((o : Operator) → p (operator_word o) ≡ false) →
    {ws : List ℕ} {k : ℕ} → IsEquation count ws k → list_any p ws ≡ false
no_word p count numbers on_not on_operator (mention {n = n} below) = or_neither (p n) false (numbers n below) refl
no_word p count numbers on_not on_operator (negation {ws = ws} e) =
    list_any-append p ws (not_word ∷ []) ∙ or_neither (list_any p ws) _ (no_word p count numbers on_not on_operator e) (or_neither (p not_word) false on_not refl)
no_word p count numbers on_not on_operator (binary {ws = ws} {us = us} o e f) =
    list_any-append p (ws ++ us) (operator_word o ∷ [])
    ∙ or_neither (list_any p (ws ++ us)) _
    (list_any-append p ws us ∙ or_neither (list_any p ws) _ (no_word p count numbers on_not on_operator e) (no_word p count numbers on_not on_operator f))
    (or_neither (p (operator_word o)) false (on_operator o) refl)

with_words_before-append : (before xs ys : List ℕ) →
    with_words_before before (xs ++ ys) ≡ with_words_before before xs ++ with_words_before (before ++ xs) ys
with_words_before-append before [] ys = ap (λ b. with_words_before b ys) (sym (append-nil before))
with_words_before-append before (x ∷ xs) ys =
    ap (λ rest. (before, x) ∷ rest)
    (with_words_before-append (before ++ x ∷ []) xs ys
    ∙ ap (λ b. with_words_before (before ++ x ∷ []) xs ++ with_words_before b ys) (append_assoc before (x ∷ []) xs))

-- a step of a list in two parts
steps_of_parts : (before xs ys : List ℕ) → list_any too_few (with_words_before before xs) ≡ false →
    list_any too_few (with_words_before (before ++ xs) ys) ≡ false → list_any too_few (with_words_before before (xs ++ ys)) ≡ false
steps_of_parts before xs ys a b =
    rw (with_words_before-append before xs ys)
    (list_any-append too_few (with_words_before before xs) (with_words_before (before ++ xs) ys) ∙ or_neither _ _ a b)

module _ (count : ℕ) (most : count ≤ table_entries) where
  pub no_operands : (n : ℕ) → n < count → operands_of n ≡ 0
  no_operands n below =
      let a : nat_le 0xFF01 n ≡ false = grind (arith, below, most) in
      let b : (n == 0xFF04) ≡ false = grind (arith, below, most) in
      let c : (n == 0xFF05) ≡ false = grind (arith, below, most) in
      rw (a, b, c) refl

  one_step : (before : List ℕ) (w : ℕ) → operands_of w ≤ waiting before → list_any too_few (with_words_before before (w ∷ [])) ≡ false
  one_step before w enough = or_neither (too_few (before, w)) false (test_not_less (waiting before) (operands_of w) enough) refl

  -- behind words that lacked nothing
  fed : (before : List ℕ) → binaries before ≤ mentions before → {ws : List ℕ} {k : ℕ} → IsEquation count ws k →
      list_any too_few (with_words_before before ws) ≡ false
  fed before fine (mention {n = n} below) = one_step before n (rw (no_operands n below) (omega arith))
  fed before fine (negation {ws = ws} e) = steps_of_parts before ws (not_word ∷ []) (fed before fine e)
      (one_step (before ++ ws) not_word (omega (arith, fine, waiting_is (before ++ ws), mentions-append before ws, binaries-append before ws, (profile count most e).whole)))
  fed before fine (binary {ws = ws} {us = us} o e f) = steps_of_parts before (ws ++ us) (operator_word o ∷ [])
      (steps_of_parts before ws us (fed before fine e) (fed (before ++ ws) behind f))
      (one_step (before ++ (ws ++ us)) (operator_word o) (rw (operator_operands o) (omega (
        arith,
        fine,
        waiting_is (before ++ (ws ++ us)),
        mentions-append before (ws ++ us),
        binaries-append before (ws ++ us),
        mentions-append ws us,
        binaries-append ws us,
        (profile count most e).whole,
        (profile count most f).whole,
      ))))
    where
      behind : binaries (before ++ ws) ≤ mentions (before ++ ws)
      behind = omega (arith, fine, mentions-append before ws, binaries-append before ws, (profile count most e).whole)

-- what no front shows, no step shows
each_step : (P : List ℕ → Bool) (x : ℕ) (ws before : List ℕ) → ((n : ℕ) → P (before ++ take n ws) ≡ false) →
    list_any (λ (s : List ℕ × ℕ). P s.0) (with_words_before before (ws ++ x ∷ [])) ≡ false
each_step P x [] before h = or_neither (P before) false (rw (append-nil before) at (h zero)) refl
each_step P x (w ∷ ws) before h =
    or_neither (P before) _ (rw (append-nil before) at (h zero))
    (each_step P x ws (before ++ w ∷ []) (λ n. rw (append_assoc before (w ∷ []) (take n ws)) (h (suc n))))

tests_of_spelled : (count : ℕ) (ws : List ℕ) (k : ℕ) → count ≤ table_entries → k ≤ most_waiting → IsEquation count ws k →
    AllByRecursion (λ t. t.0 ≡ false) (equation_tests count ws)
tests_of_spelled count ws k most few e = (known, (there, (enough, (waits, (one_left, tt)))))
  where
    p : Profile ws k
    p = profile count most e

    known : list_any unknown ws ≡ false
    known = no_word unknown count
        (λ n below. let a : nat_lt n 176 ≡ true = grind (arith, below, most) in rw a refl) refl
        (elim [ And ↦ refl | Or ↦ refl | Xor ↦ refl ]) e

    there : list_any (missing count) ws ≡ false
    there = no_word (missing count) count
        (λ n below. let a : nat_lt n 176 ≡ true = grind (arith, below, most) in let b : nat_le count n ≡ false = grind (arith, below) in rw (a, b) refl) refl
        (elim [ And ↦ refl | Or ↦ refl | Xor ↦ refl ]) e

    enough : list_any too_few (with_words_before [] (ws ++ equal_word ∷ [])) ≡ false
    enough = steps_of_parts [] ws (equal_word ∷ []) (fed count most [] (omega (arith, empty_counts.0, empty_counts.1)) e)
        (one_step count most ws equal_word (omega (arith, waiting_is ws, p.whole)))

    waits : list_any too_many (with_words_before [] (ws ++ equal_word ∷ [])) ≡ false
    waits = each_step (λ us. nat_lt most_waiting (waiting us)) equal_word ws []
        (λ n. test_not_less most_waiting (waiting (take n ws)) (omega (arith, few, (p.fronts n).high, waiting_is (take n ws))))

    one_left : nat_lt 1 (waiting ws) ≡ false
    one_left = test_not_less 1 (waiting ws) (omega (arith, waiting_is ws, p.whole))

pub sound_words_spell : SoundWordsSpell
sound_words_spell count ws most = (
  λ none. spelled_by_tests count ws most (none_stands (equation_tests count ws) none),
  λ spelled. stands_none (equation_tests count ws) (tests_of_spelled count ws spelled.0 most spelled.1 spelled.2),
)
