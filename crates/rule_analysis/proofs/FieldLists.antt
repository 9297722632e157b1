-- Fields that are read by terms, each once.
use Rattle.std.proofs.Common.{◌≡◌, ℕ, zero, suc, ◌+◌, ◌<◌, Bool, true, false, ◌||◌, ◌&&◌, ◌==◌, if◌then◌else◌, List, [], ◌∷◌, ◌++◌, length, get_or, refl, ap, sym, ◌∙◌, subst, arith}
use Rattle.std.specs.Prelude.{IsTrue, IsFalse, Contains}
use Rattle.std.specs.List.{AllByRecursion, list_any}
use Rattle.std.proofs.lemmas.Bool.Decides.{nat_tests}
use Rattle.lc_model.specs.Codes.{type_code}
use Rattle.lc_model.specs.declared.field.Term.{Term}
use Rattle.rule_analysis.specs.declared.fields.Field.{Field}
use Rattle.rule_analysis.specs.Fields.{AreDifferent, AreFieldsOf, field_number, field_read, is_field_of, is_one}
use Rattle.rule_analysis.proofs.Each.{both}

pub any_at : {A : Type 0} (P : A → Bool) (xs : List A) (k : ℕ) (x : A) → k < length xs → get_or xs k x ≡ x → IsTrue (P x) → IsTrue (list_any P xs)
any_at P [] k x below is holds = absurd (omega (arith, below))
any_at P (y ∷ xs) zero x below is holds = by_test (P y) (subst (λ z. IsTrue (P z)) (sym is) holds)
  where
    by_test : (test : Bool) → IsTrue test → IsTrue (test || list_any P xs)
    by_test true h = refl
    by_test false h = cc
any_at P (y ∷ xs) (suc k) x below is holds = by_test (P y) (any_at P xs k x (omega (arith, below)) is holds)
  where
    by_test : (test : Bool) → IsTrue (list_any P xs) → IsTrue (test || list_any P xs)
    by_test true h = refl
    by_test false h = h

not_read : (fields : List Field) (t : Term) → field_number fields t ≡ length fields → AllByRecursion (λ f. IsFalse (is_field_of t f)) fields
unfolding field_number
not_read [] t past = tt
not_read (f ∷ fields) t past = by_test (is_field_of t f) (not_read fields t) past
  where
    by_test : (test : Bool) → (field_number fields t ≡ length fields → AllByRecursion (λ g. IsFalse (is_field_of t g)) fields) →
        (if test then 0 else field_number fields t + 1) ≡ suc (length fields) → IsFalse test × AllByRecursion (λ g. IsFalse (is_field_of t g)) fields
    by_test true later e = absurd (omega (arith, e))
    by_test false later e = (refl, later (omega (arith, e)))

once_more : (fields : List Field) (g : Field) → AreDifferent fields → AllByRecursion (λ f. IsFalse (is_one g f)) fields → AreDifferent (fields ++ g ∷ [])
unfolding AreDifferent
once_more [] g once others = (tt, tt)
once_more (f ∷ fields) g once others = (both (λ h. IsFalse (is_one h f)) fields (g ∷ []) once.0 (others.0, tt), once_more fields g once.1 others.1)

none_differ : AreDifferent []
unfolding AreDifferent
none_differ = tt

pub no_fields : (terms : List Term) (fields : List Field) → fields ≡ [] → AreFieldsOf terms fields
no_fields terms fields none = subst (AreFieldsOf terms) (sym none) (record { read = tt; once = none_differ })

equal_numbers : (m : ℕ) → (m == m) ≡ true
equal_numbers m = grind (arith, nat_tests)

own : (t : Term) → IsTrue (is_field_of t (field_read t))
own t = λ i. equal_numbers (type_code t.kind) i && equal_numbers t.mid i && equal_numbers t.offset i && equal_numbers t.mask i

pub field_more : (terms : List Term) (t : Term) (seen fields pushed : List Field) (f : Field) (number count : ℕ) → seen ≡ fields → number ≡ field_number seen t →
    count ≡ length fields → number ≡ count → f ≡ field_read t → pushed ≡ fields ++ f ∷ [] → Contains terms t → AreFieldsOf terms fields → AreFieldsOf terms pushed
field_more terms t seen fields pushed f number count same is counts past read pushes there so_far =
    subst (AreFieldsOf terms) (sym (pushes ∙ ap (λ g. fields ++ g ∷ []) read)) (record {
      read = both (λ g. IsTrue (list_any (λ u. is_field_of u g) terms)) fields (field_read t ∷ []) so_far.read
          (any_at (λ u. is_field_of u (field_read t)) terms there.0 t there.1 there.2 (own t), tt);
      once = once_more fields (field_read t) so_far.once (not_read fields t (sym (ap (λ fs. field_number fs t) same) ∙ sym is ∙ past ∙ counts));
    })

-- ---- terms one after the other

pub add_more : (terms : List Term) (fields now : List Field) (i : ℕ) (t : Term) (first : List Field) → i < length terms → t ≡ get_or terms i t →
    ((ts : List Term) → Contains ts t → AreFieldsOf ts fields → AreFieldsOf ts now) → (AreFieldsOf terms first → AreFieldsOf terms fields) →
    AreFieldsOf terms first → AreFieldsOf terms now
add_more terms fields now i t first below is step so_far start = step terms (i, below, sym is) (so_far start)
