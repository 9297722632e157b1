-- The walk over the fields of a condition: some have numbers already, the others are stale. This project's own.
use Rattle.std.specs.Prelude.{◌≡◌, ◌≢◌, ℕ, suc, ◌≤◌, ◌<◌, List, length, slice_get, slice_index, Some, Contains}
use Rattle.std.specs.List.{AllByRecursion}
use Rattle.std.specs.declared.vec.Vec.{Vec}
use Rattle.std.specs.Global.{Global}
use Rattle.rule_analysis.specs.declared.walk.DeadEnd.{DeadEnd}
use Rattle.rule_analysis.specs.declared.walk.Outcome.{Outcome}
use Rattle.rule_analysis.specs.declared.walk.Outcome.TheVariants.{Found, Excluded, Spent}
use Rattle.lc_model.specs.declared.truth.Truth.{Truth}
use Rattle.lc_model.specs.declared.truth.Truth.TheVariants.{True}
use Rattle.lc_model.specs.declared.field.Term.{Term}
use Rattle.lc_model.specs.Condition.{Condition}
use Rattle.lc_model.specs.LimitChecker.Watch.{truth_by}
use Rattle.rule_analysis.specs.declared.open.Left.{Left}
use Rattle.rule_analysis.specs.declared.open.Open.{Open}
use Rattle.rule_analysis.specs.Classes.{truth_there, SaysTheSame}
use Rattle.rule_analysis.specs.Open.{Has, HasLeft, left_of, truth_left}

-- which field a term reads is said by a number; the first so many fields have bits
module _ (number : Term → ℕ) where
  abbrev pub found_so_far : List ℕ → Term → Truth
  found_so_far chosen t = truth_there t (slice_get chosen (number t))

  abbrev pub found_everywhere : (ℕ → ℕ) → Term → Truth
  found_everywhere bits t = truth_there t (Some (bits (number t)))

  -- bits for all fields that go on from these
  abbrev pub GoesOnFrom : List ℕ → (ℕ → ℕ) → Type 0
  GoesOnFrom chosen bits = (field there : ℕ) → slice_get chosen field ≡ Some there → bits field ≡ there

  -- no bits make the condition true
  abbrev pub IsNever : Condition → Type 0
  IsNever c = (bits : ℕ → ℕ) → truth_by (found_everywhere bits) c ≢ True

  -- none with which a field has these
  abbrev pub IsNeverWith : Condition → (field candidate : ℕ) → Type 0
  IsNeverWith c field candidate = (bits : ℕ → ℕ) → bits field ≡ candidate → truth_by (found_everywhere bits) c ≢ True

  -- whatever bits a field has, one of these makes each of the comparisons that read it say the same
  abbrev pub Represent : List Term → ℕ → List ℕ → Type 0
  Represent terms field candidates = (bits : ℕ) → (candidate : ℕ) × Contains candidates candidate
      × AllByRecursion (λ t. number t ≡ field → SaysTheSame t candidate bits) terms

-- what a walk answers: the bits that it found make the condition true, or none do, or it had too few steps
abbrev pub IsWalked : (Term → ℕ) → Condition → List ℕ → Outcome → Type 0
IsWalked number c new Found = truth_by (found_so_far number new) c ≡ True
IsWalked number c new Excluded = IsNever number c
IsWalked number c new Spent = Unit {0}

-- each field's candidates represent it
abbrev pub AreRepresented : (Term → ℕ) → List Term → List (Vec ℕ Global) → Type 0
AreRepresented number terms rows = (field : ℕ) (row : Vec ℕ Global) → slice_get rows field ≡ Some row → Represent number terms field row.items

-- a comparison that is left: it has the number of its field, which has no bits yet, and is one of these
pub record IsReady (number : Term → ℕ) (terms : List Term) (from count at : ℕ) (t : Term) : Type 0 where
  pub numbered : number t ≡ at
  pub later : from ≤ at
  pub inside : at < count
  pub named : Contains terms t

-- the same of all that are left
abbrev pub AreReady : (Term → ℕ) → List Term → (from count : ℕ) → Open → Type 0
AreReady number terms from count o = (at : ℕ) (t : Term) → Has o at t → IsReady number terms from count at t

-- what a candidate leaves of a condition
pub record IsLeftWith (number : Term → ℕ) (terms : List Term) (field count : ℕ) (o : Open) (candidate : ℕ) (rest : Left) : Type 0 where
  -- if nothing makes that true, nothing makes the condition true with the candidate
  pub never : ((bits : ℕ → ℕ) → truth_left (found_everywhere number bits) rest ≢ True) → IsNeverWith number (left_of o) field candidate
  -- and what makes it true makes the condition true
  pub found : (bits : List ℕ) → slice_get bits field ≡ Some candidate → truth_left (found_so_far number bits) rest ≡ True →
      truth_by (found_so_far number bits) (left_of o) ≡ True
  pub ready : (at : ℕ) (t : Term) → HasLeft rest at t → IsReady number terms (suc field) count at t

-- bits for more fields
abbrev pub Extends : (old new : List ℕ) → Type 0
Extends old new = (field there : ℕ) → slice_get old field ≡ Some there → slice_get new field ≡ Some there

-- no values make it true
abbrev pub IsDeadEnd : (Term → ℕ) → DeadEnd → Type 0
IsDeadEnd number end = IsNever number (left_of end.left)

-- the candidates of the next field before this one were tried, and what was chosen is as it was
pub record HasTried (number : Term → ℕ) (c : Condition) (chosen now items : List ℕ) (count : ℕ) : Type 0 where
  pub same : now ≡ chosen
  pub none : (k : ℕ) → k < count → IsNeverWith number c (length chosen) (slice_index items k)
