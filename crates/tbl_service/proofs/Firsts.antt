-- The first item of a list that passes a test.
use Rattle.std.proofs.Common.{◌≡◌, ℕ, zero, suc, ◌+◌, Bool, true, false, List, [], ◌∷◌, refl, ap, sym, ◌∙◌, subst, arith, Some, None, is_some, cond, IsTrue, IsFalse, true≢false, unwrap_or}
use Rattle.std.specs.List.{AllByRecursion, position_from}

module _ {A : Type 0} (test : A → Bool) where
  -- the item at this place passes, and none before it
  abbrev pub IsFirst : List A → ℕ → Type 0
  IsFirst [] k = ⊥
  IsFirst (x ∷ xs) zero = IsTrue (test x)
  IsFirst (x ∷ xs) (suc k) = IsFalse (test x) × IsFirst xs k

  -- none passes
  abbrev pub NonePasses : List A → Type 0
  NonePasses xs = AllByRecursion (λ x. IsFalse (test x)) xs

  first_from : (i k : ℕ) (xs : List A) → position_from test i xs ≡ Some k → (d : ℕ) × (k ≡ i + d) × IsFirst xs d
  first_from i k [] e = absurd (true≢false (sym (ap is_some e)))
  first_from i k (x ∷ xs) e = by_test (test x) refl (λ e. first_from (i + 1) k xs e)
    where
      by_test : (t : Bool) → test x ≡ t → (position_from test (i + 1) xs ≡ Some k → (d : ℕ) × (k ≡ (i + 1) + d) × IsFirst xs d) → (d : ℕ) × (k ≡ i + d) × IsFirst (x ∷ xs) d
      by_test true h behind =
          let here : Some i ≡ Some k = sym (ap (λ t. cond t (Some i) (position_from test (i + 1) xs)) h) ∙ e in
          let same : i ≡ k = ap (λ o. unwrap_or o k) here in (zero, omega arith, h)
      by_test false h behind =
          let rest = behind (sym (ap (λ t. cond t (Some i) (position_from test (i + 1) xs)) h) ∙ e) in
          let further : k ≡ (i + 1) + rest.0 = rest.1 in
          (suc rest.0, omega arith, (h, rest.2))

  pub first : (k : ℕ) (xs : List A) → position_from test 0 xs ≡ Some k → IsFirst xs k
  first k xs e =
      let found = first_from 0 k xs e in
      let same : found.0 ≡ k = omega (arith, found.1) in
      subst (λ n. IsFirst xs n) same found.2

  none_from : (i : ℕ) (xs : List A) → position_from test i xs ≡ None → NonePasses xs
  none_from i [] e = tt
  none_from i (x ∷ xs) e = by_test (test x) refl (λ e. none_from (i + 1) xs e)
    where
      by_test : (t : Bool) → test x ≡ t → (position_from test (i + 1) xs ≡ None → NonePasses xs) → IsFalse (test x) × NonePasses xs
      by_test true h behind = absurd (true≢false (ap is_some (sym (ap (λ t. cond t (Some i) (position_from test (i + 1) xs)) h) ∙ e)))
      by_test false h behind = (h, behind (sym (ap (λ t. cond t (Some i) (position_from test (i + 1) xs)) h) ∙ e))

  pub none : (xs : List A) → position_from test 0 xs ≡ None → NonePasses xs
  none xs e = none_from 0 xs e
