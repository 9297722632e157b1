-- One candidate more was tried.
use Rattle.std.proofs.Common.{◌≡◌, ℕ, zero, suc, ◌+◌, ◌-◌, ◌<◌, List, [], ◌∷◌, ◌++◌, length, take, drop, drop-cons, add-one, get_or, ◌≤◌, true, false, if◌then◌else◌, refl, ap, sym, ◌∙◌, subst, arith, Vec}
use Rattle.std.specs.Global.{Global}
use Rattle.std.specs.Prelude.{◌≢◌, slice_index, slice_get, Some}
use Rattle.lc_model.specs.declared.field.Term.{Term}
use Rattle.lc_model.specs.Condition.{Condition}
use Rattle.rule_analysis.specs.declared.open.Open.{Open}
use Rattle.rule_analysis.specs.Open.{left_of}
use Rattle.rule_analysis.specs.Search.{IsNever, IsNeverWith, Represent, AreRepresented, AreReady, HasTried}
use Rattle.rule_analysis.specs.Fields.{field_number, is_field_of}
use Rattle.rule_analysis.specs.declared.fields.Field.{Field}
use Rattle.std.proofs.lemmas.List.{drop_all}
use Rattle.rule_analysis.proofs.OpenLaws.{never_of_candidates}
use Rattle.rule_analysis.proofs.WalkLaws.{decided}

taken_back : (xs : List ℕ) (x : ℕ) → take (length xs) (xs ++ x ∷ []) ≡ xs
taken_back [] x = refl
taken_back (y ∷ xs) x = ap (λ rest. y ∷ rest) (taken_back xs x)

longer : (xs : List ℕ) (x : ℕ) → length (xs ++ x ∷ []) ≡ suc (length xs)
longer [] x = refl
longer (y ∷ xs) x = ap suc (longer xs x)

pub popped_is : (now after popped : List ℕ) (x n : ℕ) → after ≡ now ++ x ∷ [] → n ≡ length after → popped ≡ take (n - 1) after → popped ≡ now
popped_is now after popped x n pushed long pops =
    let size : n - 1 ≡ length now = omega (arith, ap length pushed, longer now x) in
    pops ∙ (λ i. take (size i) (pushed i)) ∙ taken_back now x

pub tried_more : (number : Term → ℕ) (c : Condition) (chosen now items : List ℕ) (count : ℕ) (popped : List ℕ) →
    HasTried number c chosen now items count → IsNeverWith number c (length chosen) (slice_index items count) → popped ≡ now →
    HasTried number c chosen popped items (count + 1)
tried_more number c chosen now items count popped so_far never pops = record {
  same = pops ∙ so_far.same;
  none = λ k below. decided k count
      (λ e. subst (λ n. IsNeverWith number c (length chosen) (slice_index items n)) (sym e) never)
      (λ other. so_far.none k (below_then k below other));
}
  where
    below_then : (k : ℕ) → k < count + 1 → k ≢ count → k < count
    below_then k below other = omega arith

same_default : (xs : List ℕ) (k d e : ℕ) → k < length xs → get_or xs k d ≡ get_or xs k e
same_default [] k d e below = absurd (omega arith)
same_default (x ∷ xs) zero d e below = refl
same_default (x ∷ xs) (suc k) d e below = same_default xs k d e (omega arith)

there : {A : Type 0} (xs : List A) (k : ℕ) (d : A) → k < length xs → slice_get xs k ≡ Some (get_or xs k d)
there [] k d below = absurd (omega arith)
there (x ∷ xs) zero d below = refl
there (x ∷ xs) (suc k) d below = there xs k d (omega arith)

pub all_tried : (number : Term → ℕ) (terms : List Term) (size : ℕ) (o : Open) (rows : List (Vec ℕ Global)) (chosen now items : List ℕ) (row : Vec ℕ Global) (at count : ℕ) →
    AreReady number terms (length chosen) size o → AreRepresented number terms rows → at ≡ length chosen → at < length rows → row ≡ get_or rows at row →
    items ≡ row.items → length items ≡ count → HasTried number (left_of o) chosen now items count → IsNever number (left_of o)
all_tried number terms size o rows chosen now items row at count ready represented is inside found same all tried =
    never_of_candidates number terms (length chosen) size o ready items represent
    (λ candidate here. subst (IsNeverWith number (left_of o) (length chosen)) (same_default items here.0 0 candidate here.1 ∙ here.2)
    (tried.none here.0 (subst (λ n. here.0 < n) all here.1)))
  where
    represent : Represent number terms (length chosen) items
    represent = subst (λ field. Represent number terms field items) is
        (subst (λ list. Represent number terms at list) (sym same) (represented at row (there rows at row inside ∙ ap Some (sym found))))

-- ---- which field

split : (fields : List Field) (i : ℕ) (f d : Field) → i < length fields → f ≡ get_or fields i d → drop i fields ≡ f ∷ drop (i + 1) fields
split fields i f d below is = rw (add-one, drop-cons fields i d) (ap (λ first. first ∷ drop (suc i) fields) (sym is))

pub number_here : (fields : List Field) (t : Term) (i : ℕ) (f d : Field) → i < length fields → f ≡ get_or fields i d → is_field_of t f ≡ true →
    field_number fields t ≡ field_number (drop i fields) t + i → i ≡ field_number fields t
unfolding field_number
number_here fields t i f d below is reads so_far =
    let first = ap (λ fs. field_number fs t) (split fields i f d below is) ∙ ap (λ test. if test then 0 else field_number (drop (i + 1) fields) t + 1) reads in
    omega (arith, first)

pub number_on : (fields : List Field) (t : Term) (i : ℕ) (f d : Field) → i < length fields → f ≡ get_or fields i d → is_field_of t f ≡ false →
    field_number fields t ≡ field_number (drop i fields) t + i → field_number fields t ≡ field_number (drop (i + 1) fields) t + (i + 1)
unfolding field_number
number_on fields t i f d below is other so_far =
    let first = ap (λ fs. field_number fs t) (split fields i f d below is) ∙ ap (λ test. if test then 0 else field_number (drop (i + 1) fields) t + 1) other in
    omega (arith, first)

pub number_none : (fields : List Field) (t : Term) (i : ℕ) → length fields ≤ i → i ≤ length fields →
    field_number fields t ≡ field_number (drop i fields) t + i → length fields ≡ field_number fields t
unfolding field_number
number_none fields t i past inside so_far =
    let none : field_number (drop i fields) t ≡ 0 = ap (λ fs. field_number fs t) (drop_all i fields past) in
    omega (arith, none)
