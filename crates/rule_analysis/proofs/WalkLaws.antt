-- A walk over the fields decides a condition.
use Rattle.std.proofs.Common.{◌≡◌, ℕ, zero, suc, Bool, true, false, ◌==◌, List, [], ◌∷◌, ◌++◌, length, slice_get, refl, ap, ap₂, sym, ◌∙◌, subst, arith, Option, Some, None, if◌then◌else◌}
use Rattle.std.specs.Prelude.{◌≢◌}
use Rattle.std.proofs.lemmas.Bool.Decides.{nat_tests}
use Rattle.std.specs.List.{AllByRecursion}
use Rattle.lc_model.specs.declared.truth.Truth.{Truth}
use Rattle.lc_model.specs.declared.truth.Truth.TheVariants.{True}
use Rattle.lc_model.specs.declared.field.Term.{Term}
use Rattle.lc_model.specs.Truth.{truth_not}
use Rattle.lc_model.specs.Condition.{Condition, Watch, Not, Join}
use Rattle.lc_model.specs.Tables.Equation.{mentions}
use Rattle.lc_model.specs.LimitChecker.Watch.{combined, judgement, truth_by}
use Rattle.rule_analysis.specs.Judgement.{Place, place_of, value_by, found_by, Refines, NeverHolds}
use Rattle.rule_analysis.specs.Classes.{truth_there}
use Rattle.rule_analysis.specs.Search.{found_so_far, found_everywhere, GoesOnFrom, IsNever}
use Rattle.rule_analysis.proofs.Each.{each}
use Rattle.rule_analysis.proofs.Known.{refines-same, tables_keep, parts}

-- a condition depends on its mentions alone
pub by_mentions : (found other : Term → Truth) (c : Condition) → AllByRecursion (λ t. found t ≡ other t) (mentions c) → truth_by found c ≡ truth_by other c
by_mentions found other (Watch t) same = same.0
by_mentions found other (Not c) same = ap truth_not (by_mentions found other c same)
by_mentions found other (Join o a b) same =
    let both = parts (λ t. found t ≡ other t) (mentions a) (mentions b) same in
    ap₂ (combined o) (by_mentions found other a both.0) (by_mentions found other b both.1)

pub there_before : {A : Type 0} (chosen : List A) (more : A) (field : ℕ) (there : A) → slice_get (chosen ++ more ∷ []) field ≡ Some there → field ≢ length chosen →
    slice_get chosen field ≡ Some there
there_before [] more zero there e other = absurd (other refl)
there_before [] more (suc field) there e other = e
there_before (first ∷ chosen) more zero there e other = e
there_before (first ∷ chosen) more (suc field) there e other = there_before chosen more field there e (λ same. other (ap suc same))

pub there_last : {A : Type 0} (chosen : List A) (more there : A) → slice_get (chosen ++ more ∷ []) (length chosen) ≡ Some there → more ≡ there
there_last [] more there e = cc
there_last (first ∷ chosen) more there e = there_last chosen more there e

-- the bits with another one at a field
abbrev pub changed : ℕ → ℕ → (ℕ → ℕ) → ℕ → ℕ
changed at candidate bits field = if field == at then candidate else bits field

pub at_last : (at candidate : ℕ) (bits : ℕ → ℕ) (field : ℕ) → field ≡ at → changed at candidate bits field ≡ candidate
at_last at candidate bits field e = ap (λ test. if test then candidate else bits field) yes
  where
    yes : (field == at) ≡ true
    yes = grind (arith, nat_tests)

pub elsewhere : (at candidate : ℕ) (bits : ℕ → ℕ) (field : ℕ) → field ≢ at → changed at candidate bits field ≡ bits field
elsewhere at candidate bits field e = ap (λ test. if test then candidate else bits field) no
  where
    no : (field == at) ≡ false
    no = grind (arith, nat_tests)

pub decided : {C : Type 0} (a b : ℕ) → (a ≡ b → C) → (a ≢ b → C) → C
decided {C} a b same other = by_test (a == b) refl
  where
    yes : (a == b) ≡ true → a ≡ b
    yes e = grind (arith, nat_tests)

    no : (a == b) ≡ false → a ≢ b
    no e = grind (arith, nat_tests)

    by_test : (test : Bool) → (a == b) ≡ test → C
    by_test true e = same (yes e)
    by_test false e = other (no e)

module _ (number : Term → ℕ) where
  -- what is found so far stays, however it goes on
  so_far_refines : (chosen : List ℕ) (bits : ℕ → ℕ) → GoesOnFrom number chosen bits → (t : Term) →
      Refines (found_so_far number chosen t) (found_everywhere number bits t)
  so_far_refines chosen bits on t = by_place (slice_get chosen (number t)) refl
    where
      by_place : (o : Option ℕ) → slice_get chosen (number t) ≡ o → Refines (truth_there t o) (found_everywhere number bits t)
      by_place None e = tt
      by_place (Some there) e =
          subst (λ n. Refines (truth_there t (Some there)) (truth_there t (Some n))) (sym (on (number t) there e)) (refines-same (truth_there t (Some there)))

  -- true already: each way on makes it true
  pub true_stays : (c : Condition) (chosen : List ℕ) → truth_by (found_so_far number chosen) c ≡ True → (bits : ℕ → ℕ) → GoesOnFrom number chosen bits →
      truth_by (found_everywhere number bits) c ≡ True
  true_stays c chosen e bits on =
      subst (λ x. Refines x (truth_by (found_everywhere number bits) c)) e
      (tables_keep (found_so_far number chosen) (found_everywhere number bits) (so_far_refines chosen bits on) c)

-- ---- fields by number

-- what no bits make true holds for no readings, where the numbers tell fields apart
pub never_holds : (number : Term → ℕ) (places : ℕ → Place) (c : Condition) → AllByRecursion (λ t. places (number t) ≡ place_of t) (mentions c) →
    IsNever number c → NeverHolds c
never_holds number places c named never readings holds =
    never (λ field. readings (places field))
    (by_mentions (found_everywhere number (λ field. readings (places field))) (found_by readings) c
    (each (mentions c) (λ t e. ap (λ p. judgement t (Some (value_by (place_of t) (readings p)))) e) named) ∙ holds)
