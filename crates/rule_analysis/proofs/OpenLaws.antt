-- What is left of a condition, at each part of a walk.
use Rattle.std.proofs.Common.{◌≡◌, ℕ, zero, suc, ◌≤◌, ◌<◌, List, [], ◌∷◌, ◌++◌, length, slice_get, refl, ap, sym, ◌∙◌, subst, arith, Some, inl, inr}
use Rattle.std.specs.Prelude.{◌≢◌, Contains}
use Rattle.std.specs.List.{AllByRecursion}
use Rattle.std.proofs.lemmas.List.Elements.{Contains-append_left, Contains-append_right}
use Rattle.lc_model.specs.declared.truth.Truth.{Truth}
use Rattle.lc_model.specs.declared.truth.Truth.TheVariants.{True, False, Stale, Error}
use Rattle.lc_model.specs.Truth.{truth_not}
use Rattle.lc_model.specs.Condition.{And, Condition, Join, Not, Xor}
use Rattle.lc_model.specs.declared.field.Term.{Term}
use Rattle.lc_model.specs.LimitChecker.Watch.{combined, truth_by}
use Rattle.lc_model.specs.Tables.Equation.{mentions}
use Rattle.rule_analysis.specs.declared.open.Open.{Open}
use Rattle.rule_analysis.specs.declared.open.Open.TheVariants as tree
use Rattle.rule_analysis.specs.declared.open.Left.{Left}
use Rattle.rule_analysis.specs.declared.open.Left.TheVariants as left
use Rattle.rule_analysis.specs.declared.walk.Outcome.{Outcome}
use Rattle.rule_analysis.specs.declared.walk.Outcome.TheVariants.{Found, Excluded, Spent}
use Rattle.rule_analysis.specs.Classes.{truth_there, SaysTheSame}
use Rattle.rule_analysis.specs.Open.{Has, HasBits, HasLeft, left_of, truth_left}
use Rattle.rule_analysis.specs.Search.{found_so_far, found_everywhere, IsNever, IsNeverWith, Represent, IsWalked, IsReady, AreReady, IsLeftWith, Extends}
use Rattle.rule_analysis.proofs.Each.{both}
use Rattle.rule_analysis.proofs.StepLaws.{next_size}
use Rattle.rule_analysis.proofs.WalkLaws.{by_mentions, changed, at_last, elsewhere, decided}

-- what holds of all items holds of one of them
pub of_one : {A : Type 0} (P : A → Type 0) (xs : List A) (x : A) → AllByRecursion P xs → Contains xs x → P x
of_one P [] x all has = absurd (omega (arith, has.1))
of_one P (y ∷ xs) x all (zero, below, is) = subst P is all.0
of_one P (y ∷ xs) x all (suc k, below, is) = of_one P xs x all.1 (k, omega (arith, below), is)

-- what holds of each comparison that is left holds of those that the condition mentions
pub all_mentions : (Q : Term → Type 0) (o : Open) → ((at : ℕ) (t : Term) → Has o at t → Q t) → AllByRecursion Q (mentions (left_of o))
all_mentions Q (tree.Compare field t) step = (step field t (refl, refl), tt)
all_mentions Q (tree.Not' p o) step = all_mentions Q o step
all_mentions Q (tree.And' p a b) step =
    both Q (mentions (left_of a)) (mentions (left_of b)) (all_mentions Q a (λ at t has. step at t (inl has))) (all_mentions Q b (λ at t has. step at t (inr has)))
all_mentions Q (tree.Or' p a b) step =
    both Q (mentions (left_of a)) (mentions (left_of b)) (all_mentions Q a (λ at t has. step at t (inl has))) (all_mentions Q b (λ at t has. step at t (inr has)))
all_mentions Q (tree.Xor' p a b) step =
    both Q (mentions (left_of a)) (mentions (left_of b)) (all_mentions Q a (λ at t has. step at t (inl has))) (all_mentions Q b (λ at t has. step at t (inr has)))

-- and the other way round
pub is_mentioned : (o : Open) (at : ℕ) (t : Term) → Has o at t → Contains (mentions (left_of o)) t
is_mentioned (tree.Compare field u) at t has = (0, omega arith, has.1)
is_mentioned (tree.Not' p o) at t has = is_mentioned o at t has
is_mentioned (tree.And' p a b) at t (inl has) = Contains-append_left (mentions (left_of a)) (mentions (left_of b)) t (is_mentioned a at t has)
is_mentioned (tree.And' p a b) at t (inr has) = Contains-append_right (mentions (left_of a)) (mentions (left_of b)) t (is_mentioned b at t has)
is_mentioned (tree.Or' p a b) at t (inl has) = Contains-append_left (mentions (left_of a)) (mentions (left_of b)) t (is_mentioned a at t has)
is_mentioned (tree.Or' p a b) at t (inr has) = Contains-append_right (mentions (left_of a)) (mentions (left_of b)) t (is_mentioned b at t has)
is_mentioned (tree.Xor' p a b) at t (inl has) = Contains-append_left (mentions (left_of a)) (mentions (left_of b)) t (is_mentioned a at t has)
is_mentioned (tree.Xor' p a b) at t (inr has) = Contains-append_right (mentions (left_of a)) (mentions (left_of b)) t (is_mentioned b at t has)

-- each condition has a comparison
pub some_comparison : (o : Open) → (at : ℕ) × (t : Term) × Has o at t
some_comparison (tree.Compare field t) = (field, t, (refl, refl))
some_comparison (tree.Not' p o) = some_comparison o
some_comparison (tree.And' p a b) = let some = some_comparison a in (some.0, some.1, inl some.2)
some_comparison (tree.Or' p a b) = let some = some_comparison a in (some.0, some.1, inl some.2)
some_comparison (tree.Xor' p a b) = let some = some_comparison a in (some.0, some.1, inl some.2)

module _ (number : Term → ℕ) (terms : List Term) (from count : ℕ) (o : Open) (ready : AreReady number terms from count o) where
  -- so there is a field without bits
  pub one_is_left : from < count
  one_is_left =
      let some = some_comparison o in
      let is = ready some.0 some.1 some.2 in
      omega (arith, is.later, is.inside)

  -- bits that give the next field these
  pub next_bits_found : (bits : ℕ → ℕ) (candidate : ℕ) → bits from ≡ candidate → HasBits (found_everywhere number bits) from candidate o
  next_bits_found bits candidate e t has =
      ap (λ n. truth_there t (Some n)) (ap bits (ready from t has).numbered ∙ e)

  pub next_bits_so_far : (new : List ℕ) (candidate : ℕ) → slice_get new from ≡ Some candidate → HasBits (found_so_far number new) from candidate o
  next_bits_so_far new candidate e t has =
      ap (λ there. truth_there t there) (ap (slice_get new) (ready from t has).numbered ∙ e)

  module _ (candidate : ℕ) (rest : Left)
      (truth : (found : Term → Truth) → HasBits found from candidate o → truth_left found rest ≡ truth_by found (left_of o)) where
    -- where nothing makes true what is left with a candidate, none makes the condition true with it
    pub never_with : ((bits : ℕ → ℕ) → truth_left (found_everywhere number bits) rest ≢ True) → IsNeverWith number (left_of o) from candidate
    never_with never bits e holds =
        never bits (truth (found_everywhere number bits) (next_bits_found bits candidate e) ∙ holds)

    -- bits that make true what is left make the condition true
    pub found_with : (new : List ℕ) → slice_get new from ≡ Some candidate → truth_left (found_so_far number new) rest ≡ True →
        truth_by (found_so_far number new) (left_of o) ≡ True
    found_with new e holds = sym (truth (found_so_far number new) (next_bits_so_far new candidate e)) ∙ holds

  -- what is left is ready for the next field
  ready_on : (rest : Left) → ((at : ℕ) (t : Term) → HasLeft rest at t → Has o at t × (at ≢ from)) → (at : ℕ) (t : Term) → HasLeft rest at t →
      IsReady number terms (suc from) count at t
  ready_on rest of at t has =
      let was = of at t has in
      let is = ready at t was.0 in
      record { numbered = is.numbered; later = on is.later was.1; inside = is.inside; named = is.named }
    where
      on : from ≤ at → at ≢ from → suc from ≤ at
      on later other = decided at from (λ same. absurd (other same)) (λ differ. omega arith)

  pub is_left_with : (candidate : ℕ) (rest : Left) → ((found : Term → Truth) → HasBits found from candidate o → truth_left found rest ≡ truth_by found (left_of o)) →
      ((at : ℕ) (t : Term) → HasLeft rest at t → Has o at t × (at ≢ from)) → IsLeftWith number terms from count o candidate rest
  is_left_with candidate rest truth of = record {
    never = never_with candidate rest truth;
    found = found_with candidate rest truth;
    ready = ready_on rest of;
  }

  -- the field has one of the candidates: if with none of them the condition is true, it is never
  pub never_of_candidates : (candidates : List ℕ) → Represent number terms from candidates →
      ((candidate : ℕ) → Contains candidates candidate → IsNeverWith number (left_of o) from candidate) → IsNever number (left_of o)
  never_of_candidates candidates represent none bits holds = with_candidate (represent (bits from))
    where
      at_term : (candidate : ℕ) (t : Term) → (number t ≡ from → SaysTheSame t candidate (bits from)) →
          found_everywhere number (changed from candidate bits) t ≡ found_everywhere number bits t
      at_term candidate t alike = decided (number t) from
          (λ e. ap (λ n. truth_there t (Some n)) (at_last from candidate bits (number t) e) ∙ alike e
          ∙ ap (λ field. truth_there t (Some (bits field))) (sym e))
          (λ other. ap (λ n. truth_there t (Some n)) (elsewhere from candidate bits (number t) other))

      with_candidate : (candidate : ℕ) × Contains candidates candidate
          × AllByRecursion (λ t. number t ≡ from → SaysTheSame t candidate (bits from)) terms → ⊥
      with_candidate (candidate, is, alike) =
          none candidate is (changed from candidate bits) (at_last from candidate bits from refl)
          (by_mentions (found_everywhere number (changed from candidate bits)) (found_everywhere number bits) (left_of o)
          (all_mentions (λ t. found_everywhere number (changed from candidate bits) t ≡ found_everywhere number bits t) o
          (λ at t has. at_term candidate t (of_one (λ u. number u ≡ from → SaysTheSame u candidate (bits from)) terms t alike (ready at t has).named)))
          ∙ holds)

-- ---- with the bits of the next field

last_there : (xs : List ℕ) (x : ℕ) → slice_get (xs ++ x ∷ []) (length xs) ≡ Some x
last_there [] x = refl
last_there (y ∷ xs) x = last_there xs x

still_there : (xs : List ℕ) (x field there : ℕ) → slice_get xs field ≡ Some there → slice_get (xs ++ x ∷ []) field ≡ Some there
still_there [] x field there e = cc
still_there (y ∷ xs) x zero there e = e
still_there (y ∷ xs) x (suc field) there e = still_there xs x field there e

pub extends_on : (chosen now pushed new : List ℕ) (x : ℕ) → now ≡ chosen → pushed ≡ now ++ x ∷ [] → Extends pushed new → Extends chosen new
extends_on chosen now pushed new x same pushes extends field there e =
    extends field there (subst (λ xs. slice_get xs field ≡ Some there) (sym pushes)
    (still_there now x field there (subst (λ xs. slice_get xs field ≡ Some there) (sym same) e)))

next_there : (chosen now pushed new : List ℕ) (field x : ℕ) → field ≡ length chosen → now ≡ chosen → pushed ≡ now ++ x ∷ [] → Extends pushed new →
    slice_get new field ≡ Some x
next_there chosen now pushed new field x is same pushes extends =
    extends field x (subst (λ xs. slice_get xs field ≡ Some x) (sym pushes)
    (subst (λ n. slice_get (now ++ x ∷ []) n ≡ Some x) (ap length same ∙ sym is) (last_there now x)))

module _ (number : Term → ℕ) (terms : List Term) (field count : ℕ) (o : Open) (candidate : ℕ) (l : Left) (left_is : IsLeftWith number terms field count o candidate l)
    (rest : Open) (is : l ≡ left.Open rest) where
  left_open : IsLeftWith number terms field count o candidate (left.Open rest)
  left_open = subst (IsLeftWith number terms field count o candidate) is left_is

  pub ready_pushed : (chosen now pushed : List ℕ) → field ≡ length chosen → now ≡ chosen → pushed ≡ now ++ candidate ∷ [] →
      AreReady number terms (length pushed) count rest
  ready_pushed chosen now pushed at same pushes at_ t has =
      subst (λ n. IsReady number terms n count at_ t) (ap suc at ∙ sym (next_size chosen now pushed candidate same pushes)) (left_open.ready at_ t has)

  pub walked_on : (chosen now pushed new : List ℕ) (outcome : Outcome) → field ≡ length chosen → now ≡ chosen → pushed ≡ now ++ candidate ∷ [] →
      Extends pushed new → (outcome ≡ Excluded → ⊥) → IsWalked number (left_of rest) new outcome → IsWalked number (left_of o) new outcome
  walked_on chosen now pushed new Found at same pushes extends other walked =
      left_open.found new (next_there chosen now pushed new field candidate at same pushes extends) walked
  walked_on chosen now pushed new Excluded at same pushes extends other walked = absurd (other refl)
  walked_on chosen now pushed new Spent at same pushes extends other walked = tt

  pub never_on : (chosen : List ℕ) → field ≡ length chosen → IsNever number (left_of rest) → IsNeverWith number (left_of o) (length chosen) candidate
  never_on chosen at never = subst (λ n. IsNeverWith number (left_of o) n candidate) at (left_open.never never)

-- ---- contradictions

never_and_not : (x : Truth) → combined And x (truth_not x) ≢ True
never_and_not True e = cc
never_and_not False e = cc
never_and_not Stale e = cc
never_and_not Error e = cc

never_not_and : (x : Truth) → combined And (truth_not x) x ≢ True
never_not_and True e = cc
never_not_and False e = cc
never_not_and Stale e = cc
never_not_and Error e = cc

pub never_one : (x : Truth) → combined Xor x x ≢ True
never_one True e = cc
never_one False e = cc
never_one Stale e = cc
never_one Error e = cc

pub never_with_negation_first : (found : Term → Truth) (a b : Condition) → a ≡ Not b → truth_by found (Join And a b) ≢ True
never_with_negation_first found a b is holds =
    never_not_and (truth_by found b) (subst (λ c. combined And (truth_by found c) (truth_by found b) ≡ True) is holds)

pub never_with_negation_second : (found : Term → Truth) (a b : Condition) → b ≡ Not a → truth_by found (Join And a b) ≢ True
never_with_negation_second found a b is holds =
    never_and_not (truth_by found a) (subst (λ c. combined And (truth_by found a) (truth_by found c) ≡ True) is holds)

pub never_one_of_same : (found : Term → Truth) (a b : Condition) → a ≡ b → truth_by found (Join Xor a b) ≢ True
never_one_of_same found a b same holds =
    never_one (truth_by found b) (subst (λ c. combined Xor (truth_by found c) (truth_by found b) ≡ True) same holds)
