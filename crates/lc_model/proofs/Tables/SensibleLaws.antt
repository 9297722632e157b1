-- The two halves of a rule text say rules over their own watchpoints.
use Rattle.std.proofs.Common.{◌≡◌, Bool, true, false, not, cond, ◌||◌, List, [], ◌∷◌, filter, flat_map, refl, sym, ◌∙◌, subst, IsTrue, true≢false}
use Rattle.std.specs.List.{list_any, AllByRecursion}
use Rattle.std.proofs.lemmas.Bool.Decides.{Decides-int_eq}
use Rattle.lc_model.specs.declared.field.Term.{Term}
use Rattle.lc_model.specs.Rule.{Actionpoint, NamedRule}
use Rattle.lc_model.specs.Codes.{type_code, operator_code}
use Rattle.lc_model.specs.Tables.Equation.{same_term, mentions, distinct, terms_of}
use Rattle.lc_model.specs.Rule.{actions}
use Rattle.lc_model.specs.Laws.LimitChecker.{HalvesAreSensible}
use Rattle.lc_model.proofs.Events.LogLaws.{eq-true}
use Rattle.lc_model.proofs.LimitChecker.ResultLaws.{front, back, one_term, or_rest}
use Rattle.lc_model.proofs.Facts.{and_true}

pub or_one : (a b : Bool) → IsTrue a → IsTrue (a || b)
or_one true b h = refl
or_one false b h = absurd (true≢false (sym h))

pub or_other : (a b : Bool) → IsTrue b → IsTrue (a || b)
or_other true b h = refl
or_other false b h = h

same_self : (t : Term) → IsTrue (same_term t t)
same_self t =
    and_true _ _ (and_true _ _ (and_true _ _ (and_true _ _ (and_true _ _ (and_true _ _
    (eq-true (type_code t.kind) (type_code t.kind) refl) (eq-true t.mid t.mid refl)) (eq-true t.offset t.offset refl)) (eq-true t.mask t.mask refl))
    (eq-true t.stale t.stale refl)) (eq-true (operator_code t.op) (operator_code t.op) refl)) ((Decides-int_eq t.value t.value).1 refl)

pub same_as : (t u : Term) → t ≡ u → IsTrue (same_term t u)
same_as t u e = subst (λ v. IsTrue (same_term t v)) e (same_self t)

-- a term of a list is another one, or is left when that one is taken out
kept : (t u : Term) (xs : List Term) → IsTrue (list_any (same_term u) xs) →
    IsTrue (same_term u t || list_any (same_term u) (filter (λ v. not (same_term t v)) xs))
kept t u [] among = absurd (true≢false (sym among))
kept t u (v ∷ xs) among = by_tests (same_term u v) refl (same_term t v) refl (kept t u xs)
  where
    by_tests : (c : Bool) → same_term u v ≡ c → (b : Bool) → same_term t v ≡ b →
        (IsTrue (list_any (same_term u) xs) → IsTrue (same_term u t || list_any (same_term u) (filter (λ w. not (same_term t w)) xs))) →
        IsTrue (same_term u t || list_any (same_term u) (cond (not b) (v ∷ filter (λ w. not (same_term t w)) xs) (filter (λ w. not (same_term t w)) xs)))
    by_tests true e true taken rest = or_one _ _ (same_as u t (one_term u v e ∙ sym (one_term t v taken)))
    by_tests true e false left rest = or_other (same_term u t) _ (or_one _ _ e)
    by_tests false e true taken rest = rest (or_rest (same_term u v) (list_any (same_term u) xs) e among)
    by_tests false e false left rest =
        rw e (rest (or_rest (same_term u v) (list_any (same_term u) xs) e among))

all-map : {A : Type 0} (P Q : A → Type 0) → ((x : A) → P x → Q x) → (xs : List A) → AllByRecursion P xs → AllByRecursion Q xs
all-map P Q f [] all = tt
all-map P Q f (x ∷ xs) all = (f x all.0, all-map P Q f xs all.1)

-- each term of a list is among its distinct ones
pub all_among : (ts : List Term) → AllByRecursion (λ t. IsTrue (list_any (same_term t) (distinct ts))) ts
all_among [] = tt
all_among (t ∷ ts) = (or_one _ _ (same_self t), all-map _ _ (λ u among. kept t u (distinct ts) among) ts (all_among ts))

-- what holds of all mentions of some rules holds of each rule's
of_each : (P : Term → Type 0) (rules : List NamedRule) → AllByRecursion P (flat_map (λ (r : NamedRule). mentions r.action.condition) rules) →
    AllByRecursion (λ (a : Actionpoint). AllByRecursion P (mentions a.condition)) (actions rules)
of_each P [] all = tt
of_each P (r ∷ rules) all =
    let others : List Term = flat_map (λ (r : NamedRule). mentions r.action.condition) rules in
    (front P (mentions r.action.condition) others all, of_each P rules (back P (mentions r.action.condition) others all))

pub halves_are_sensible : HalvesAreSensible
halves_are_sensible layouts text in_range = record {
  in_range = in_range;
  over = of_each (λ t. IsTrue (list_any (same_term t) (terms_of text.rules))) text.rules (all_among (flat_map (λ (r : NamedRule). mentions r.action.condition) text.rules));
}
