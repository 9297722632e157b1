-- Plain facts on tests, numbers, lists and options, for the proofs of all crates.
use Rattle.std.proofs.Common.{◌≡◌, ◌≢◌, refl, sym, ◌∙◌, ℕ, zero, suc, ◌<◌, ◌≤◌, ◌⊎◌, inl, inr, Bool, true, false, not, ◌&&◌, ◌||◌, ◌==◌, nat_lt, nat_le, List, [], ◌∷◌, ◌++◌, map, replicate, slice_index_or, Option, Some, None, if◌then◌else◌, arith}
use Rattle.std.proofs.lemmas.Bool.{cases_lt}

-- ---- two tests in one

pub and_first : (a b : Bool) → (a && b) ≡ true → a ≡ true
and_first true b e = refl
and_first false b e = e

pub and_second : (a b : Bool) → (a && b) ≡ true → b ≡ true
and_second true b e = e
and_second false b e = absurd (cc e)

pub and_both : (a b : Bool) → (a && b) ≡ true → (a ≡ true) × (b ≡ true)
and_both a b e = (and_first a b e, and_second a b e)

pub and_true : (a b : Bool) → a ≡ true → b ≡ true → (a && b) ≡ true
and_true true b e f = f
and_true false b e f = absurd (cc e)

pub and_first_false : (a b : Bool) → a ≡ false → (a && b) ≡ false
and_first_false true b e = absurd (cc e)
and_first_false false b e = refl

pub and_second_false : (a b : Bool) → b ≡ false → (a && b) ≡ false
and_second_false true b e = e
and_second_false false b e = refl

pub and_other : (a b : Bool) → a ≡ true → (a && b) ≡ false → b ≡ false
and_other true b e f = f
and_other false b e f = absurd (cc e)

pub and_false : (a : Bool) → (a && false) ≡ false
and_false true = refl
and_false false = refl

pub or_first : (a b : Bool) → (a || b) ≡ false → a ≡ false
or_first true b e = e
or_first false b e = refl

pub or_second : (a b : Bool) → (a || b) ≡ false → b ≡ false
or_second true b e = absurd (cc e)
or_second false b e = e

pub or_neither : (a b : Bool) → a ≡ false → b ≡ false → (a || b) ≡ false
or_neither true b e f = absurd (cc e)
or_neither false b e f = f

pub or_other : (a b : Bool) → (a || b) ≡ true → a ≡ false → b ≡ true
or_other true b e f = absurd (cc f)
or_other false b e f = e

pub or_false : (a : Bool) → (a || false) ≡ a
or_false true = refl
or_false false = refl

pub or_true : (a : Bool) → (a || true) ≡ true
or_true true = refl
or_true false = refl

pub or_assoc : (a b c : Bool) → ((a || b) || c) ≡ (a || (b || c))
or_assoc true b c = refl
or_assoc false b c = refl

pub or_none_of_four : (a b c d : Bool) → a ≡ false → b ≡ false → c ≡ false → d ≡ false → (a || b || c || d) ≡ false
or_none_of_four true b c d e f g h = absurd (cc e)
or_none_of_four false true c d e f g h = absurd (cc f)
or_none_of_four false false true d e f g h = absurd (cc g)
or_none_of_four false false false d e f g h = h

pub not_false : (b : Bool) → not b ≡ false → b ≡ true
not_false true e = refl
not_false false e = absurd (cc e)

pub not_true : (b : Bool) → (b ≡ true → ⊥) → b ≡ false
not_true true never = absurd (never refl)
not_true false never = refl

-- ---- tests of numbers: from a number's place to the test, and back

pub test_less : (m n : ℕ) → m < n → nat_lt m n ≡ true
test_less m n h = grind (arith, h)

pub test_not_less : (m n : ℕ) → n ≤ m → nat_lt m n ≡ false
test_not_less m n h = grind (arith, h)

pub test_at_most : (m n : ℕ) → m ≤ n → nat_le m n ≡ true
test_at_most m n h = grind (arith, h)

pub test_not_at_most : (m n : ℕ) → n < m → nat_le m n ≡ false
test_not_at_most m n h = grind (arith, h)

pub test_equal : (m n : ℕ) → m ≡ n → (m == n) ≡ true
test_equal m n e = grind (arith, e)

pub test_unequal : (m n : ℕ) → m ≢ n → (m == n) ≡ false
test_unequal m n h = grind (arith, h)

pub tested_less : (m n : ℕ) → nat_lt m n ≡ true → m < n
tested_less m n e = grind (arith, e)

pub tested_not_less : (m n : ℕ) → nat_lt m n ≡ false → n ≤ m
tested_not_less m n e = go (cases_lt m n)
  where
    go : (m < n) ⊎ (n ≤ m) → n ≤ m
    go (inl below) = absurd (cc (sym (test_less m n below) ∙ e))
    go (inr above) = above

pub tested_at_most : (m n : ℕ) → nat_le m n ≡ true → m ≤ n
tested_at_most m n e = grind (arith, e)

pub tested_equal : (m n : ℕ) → (m == n) ≡ true → m ≡ n
tested_equal m n e = grind (arith, e)

pub tested_unequal : (m n : ℕ) → (m == n) ≡ false → m ≢ n
tested_unequal m n e same = absurd (cc (sym (test_equal m n same) ∙ e))

pub equal_itself : (n : ℕ) → (n == n) ≡ true
equal_itself n = test_equal n n refl

pub unequal_turned : (m n : ℕ) → (m == n) ≡ false → (n == m) ≡ false
unequal_turned m n e = grind (arith, e)

pub equal_either_way : (m n : ℕ) → (m == n) ≡ (n == m)
equal_either_way m n = by_test (m == n) refl
  where
    by_test : (t : Bool) → (m == n) ≡ t → (m == n) ≡ (n == m)
    by_test true e = e ∙ sym (test_equal n m (sym (tested_equal m n e)))
    by_test false e = e ∙ sym (unequal_turned m n e)

-- ---- lists and options

pub map_none : {A B : Type 0} (f : A → B) (xs : List A) → map f xs ≡ [] → xs ≡ []
map_none f [] e = refl
map_none f (x ∷ xs) e = absurd (cc e)

-- what is the same everywhere is so at each place, and beyond
pub same_at : {A : Type 0} (n k : ℕ) (x : A) → slice_index_or (replicate n x) k x ≡ x
same_at zero k x = refl
same_at (suc n) zero x = refl
same_at (suc n) (suc k) x = same_at n k x

-- where nothing is found, neither the test stood nor was one of the others found
pub none_of_if : {A : Type 0} (b : Bool) (x : A) (others : Option A) → (if b then Some x else others) ≡ None → (b ≡ false) × (others ≡ None)
none_of_if true x others e = absurd (cc e)
none_of_if false x others e = (refl, e)

pub append_none_first : {A : Type 0} (xs ys : List A) → xs ++ ys ≡ [] → xs ≡ []
append_none_first [] ys e = refl
append_none_first (x ∷ xs) ys e = absurd (cc e)

pub append_none_second : {A : Type 0} (xs ys : List A) → xs ++ ys ≡ [] → ys ≡ []
append_none_second [] ys e = e
append_none_second (x ∷ xs) ys e = absurd (cc e)

pub some_same : {A : Type 0} (x y : A) → Some x ≡ Some y → x ≡ y
some_same x y e = cc e
