-- Ties hold in every history.
use Rattle.std.proofs.Common.{◌≡◌, ℕ, zero, suc, ◌+◌, ◌<◌, Bool, true, false, ◌&&◌, ◌||◌, ◌==◌, nat_lt, nat_le, List, [], ◌∷◌, length, slice_range, get_or, bit_and, ℤ, Option, Some, None, if◌then◌else◌, refl, ap, ap₂, sym, ◌∙◌, subst, arith, true≢false}
use Rattle.std.specs.Prelude.{IsTrue, Contains}
use Rattle.std.specs.List.{AllByRecursion, list_any}
use Rattle.std.proofs.lemmas.Bool.Decides.{Decides-eqb, nat_tests}
use Rattle.lc_model.specs.declared.truth.Truth.{Truth}
use Rattle.lc_model.specs.declared.truth.Truth.TheVariants.{True, False, Stale}
use Rattle.lc_model.specs.declared.field.Term.{Term}
use Rattle.lc_model.specs.Field.{compares, raw, twos_complement, value_of, width}
use Rattle.lc_model.specs.Truth.{truth_and, truth_or, truth_not}
use Rattle.lc_model.specs.Condition.{Condition, Join, And, Or, Not}
use Rattle.lc_model.specs.LimitChecker.Watch.{History, truth_by, truth_of_term, last_packet, is_stale, judgement}
use Rattle.lc_model.proofs.Facts.{and_first, and_second}
use Rattle.lc_model.specs.Laws.Lagging.{IsTrueOnlyWhere}
use Rattle.rule_analysis.specs.Judgement.{NeverHolds, is_known, found_by}
use Rattle.rule_changes.specs.Known.{IsTied, is_known_with, is_of_no_packet, known_by, only_first, terms_of_both}
use Rattle.rule_changes.specs.ConditionChanges.{SomeQuestion}
use Rattle.rule_changes.proofs.Lifting.{IsNamed, all_named, known_is, never_by_readings, readings_with}

-- ---- known wherever another one is

judged : Term → Option (List ℕ × ℕ) → Truth
judged t None = Stale
judged t (Some (packet, agings)) = if is_stale t agings then Stale else judgement t (value_of t packet)

-- the value in a packet that is long enough
abbrev value_in : Term → List ℕ → ℤ
value_in t packet = twos_complement t.kind (bit_and (raw t.kind (slice_range packet t.offset (t.offset + width t.kind))) t.mask)

-- neither too old nor in too short a packet
record IsThere (t : Term) (packet : List ℕ) (agings : ℕ) : Type 0 where
  fresh : is_stale t agings ≡ false
  long : nat_lt (length packet) (t.offset + width t.kind) ≡ false

there : (t : Term) (packet : List ℕ) (agings : ℕ) → IsTrue (is_known (judged t (Some (packet, agings)))) → IsThere t packet agings
unfolding judged
there t packet agings known = by_tests (is_stale t agings) refl (nat_lt (length packet) (t.offset + width t.kind)) refl
  where
    by_tests : (stale : Bool) → is_stale t agings ≡ stale → (short : Bool) → nat_lt (length packet) (t.offset + width t.kind) ≡ short → IsThere t packet agings
    by_tests true e short f = absurd (true≢false (sym known ∙ ap (λ b. is_known (if b then Stale else judgement t (value_of t packet))) e))
    by_tests false e true f =
        absurd (true≢false (sym known ∙ ap₂ (λ b s. is_known (if b then Stale else judgement t (if s then None else Some (value_in t packet)))) e f))
    by_tests false e false f = record { fresh = e; long = f }

if_there : (t : Term) (packet : List ℕ) (agings : ℕ) → IsThere t packet agings → is_known (judged t (Some (packet, agings))) ≡ true
unfolding judged
if_there t packet agings is =
    ap₂ (λ b s. is_known (if b then Stale else judgement t (if s then None else Some (value_in t packet)))) is.fresh is.long ∙ two_valued (compares t.op (value_in t packet) t.value)
  where
    two_valued : (b : Bool) → is_known (if b then True else False) ≡ true
    two_valued true = refl
    two_valued false = refl

known_with_there : (t u : Term) (packet : List ℕ) (agings : ℕ) → IsTrue (is_known_with t u) → IsThere t packet agings → IsThere u packet agings
known_with_there t u packet agings known is =
    let mids : Bool = u.mid == t.mid in
    let ends : Bool = nat_le (u.offset + width u.kind) (t.offset + width t.kind) in
    let ages : Bool = (u.stale == 0) || (nat_lt 0 t.stale && nat_le t.stale u.stale) in
    record {
      fresh = fresher t.stale u.stale agings (and_second (mids && ends) ages known) is.fresh;
      long = longer (length packet) (u.offset + width u.kind) (t.offset + width t.kind) (and_second mids ends (and_first (mids && ends) ages known)) is.long;
    }
  where
    longer : (size a b : ℕ) → nat_le a b ≡ true → nat_lt size b ≡ false → nat_lt size a ≡ false
    longer size a b one other = grind (arith, nat_tests)

    fresher : (a b agings : ℕ) → ((b == 0) || (nat_lt 0 a && nat_le a b)) ≡ true → (nat_lt 0 a && nat_le a agings) ≡ false → (nat_lt 0 b && nat_le b agings) ≡ false
    fresher a b agings one other = grind (arith, nat_tests)

pub known_with : (t u : Term) (h : History) → IsTrue (is_known_with t u) → IsTrue (is_known (truth_of_term t h)) → IsTrue (is_known (truth_of_term u h))
unfolding judged
known_with t u h known is =
    ap (λ mid. is_known (judged u (last_packet mid h))) mids ∙ by_last (last_packet t.mid h) is
  where
    mids : u.mid ≡ t.mid
    mids = (Decides-eqb u.mid t.mid).0 (and_first (u.mid == t.mid) (nat_le (u.offset + width u.kind) (t.offset + width t.kind)) (and_first
        ((u.mid == t.mid) && nat_le (u.offset + width u.kind) (t.offset + width t.kind)) ((u.stale == 0) || (nat_lt 0 t.stale && nat_le t.stale u.stale)) known))

    by_last : (last : Option (List ℕ × ℕ)) → IsTrue (is_known (judged t last)) → IsTrue (is_known (judged u last))
    by_last None none = none
    by_last (Some (packet, agings)) own = if_there u packet agings (known_with_there t u packet agings known (there t packet agings own))

-- ---- one of several

pub one_at : {A : Type 0} (P : A → Type 0) (xs : List A) (k : ℕ) (d : A) → AllByRecursion P xs → k < length xs → P (get_or xs k d)
one_at P [] k d all below = absurd (omega (arith, below))
one_at P (x ∷ xs) zero d all below = all.0
one_at P (x ∷ xs) (suc k) d all below = one_at P xs k d all.1 (omega (arith, below))

-- ---- ties hold

named_at : (terms all : List Term) (t : Term) → AllByRecursion (IsNamed all) terms → Contains terms t → IsNamed all t
named_at terms all t named there = subst (IsNamed all) there.2 (one_at (IsNamed all) terms there.0 t named there.1)

module _ (terms : List Term) (h : History) where
  tie_holds : (t u : Term) → IsNamed terms t → IsNamed terms u → IsTrue (is_known_with t u) →
      truth_by (found_by (readings_with terms h)) (Join Or (Not (known_by terms t)) (known_by terms u)) ≡ True
  tie_holds t u t_named u_named known =
      ap₂ (λ x y. truth_or (truth_not x) y) (known_is terms h t t_named) (known_is terms h u u_named)
      ∙ by_tests (is_known (truth_of_term t h)) (is_known (truth_of_term u h)) (known_with t u h known)
    where
      by_tests : (a b : Bool) → (IsTrue a → IsTrue b) → truth_or (truth_not (if a then True else False)) (if b then True else False) ≡ True
      by_tests true b step = ap (λ x. if x then True else False) (step refl)
      by_tests false b step = refl

  tied_truth : (question made : Condition) → IsTied terms question made →
      truth_by (found_by (readings_with terms h)) made ≡ truth_by (found_by (readings_with terms h)) question
  tied_truth question made IsTied.free = refl
  tied_truth question _ (IsTied.tie {made = made} t u t_in u_in known tied) =
      ap (λ x. truth_and x (truth_by (found_by (readings_with terms h)) made))
      (tie_holds t u (named_at terms terms t (all_named terms) t_in) (named_at terms terms u (all_named terms) u_in) known)
      ∙ tied_truth question made tied

pub never_tied : (terms : List Term) (first second question made : Condition) → list_any is_of_no_packet terms ≡ false → terms ≡ terms_of_both first second →
    question ≡ only_first terms true first second → IsTied terms question made → NeverHolds made → IsTrueOnlyWhere first second
never_tied terms first second question made none are asks tied never =
    never_by_readings terms first second none are
    (λ h is. never (readings_with terms h) (tied_truth terms h question made tied ∙ ap (truth_by (found_by (readings_with terms h))) asks ∙ is))

pub some_question : (terms : List Term) (first second question made : Condition) (Is : Condition → Type 0) → terms ≡ terms_of_both first second →
    question ≡ only_first terms true first second → IsTied terms question made → Is made → SomeQuestion first second Is
some_question terms first second question made Is are asks tied is = (
  made,
  subst (λ ts. IsTied ts (only_first ts true first second) made) are (subst (λ q. IsTied terms q made) asks tied),
  is,
)

-- one tie more
pub tie_more : (terms : List Term) (t u : Term) (before made q : Condition) → Contains terms t → Contains terms u → IsTrue (is_known_with t u) →
    made ≡ Join And (Join Or (Not (known_by terms t)) (known_by terms u)) before → IsTied terms q before → IsTied terms q made
tie_more terms t u before made q t_in u_in known is tied = subst (IsTied terms q) (sym is) (IsTied.tie t u t_in u_in known tied)
