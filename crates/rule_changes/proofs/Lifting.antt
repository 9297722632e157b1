-- Questions over readings judge histories: each history gives readings that also say what is known.
use Rattle.std.proofs.Common.{◌≡◌, ℕ, zero, suc, ◌+◌, Bool, true, false, ◌&&◌, ◌||◌, ◌==◌, List, [], ◌∷◌, slice_get, Option, Some, None, ℤ, if◌then◌else◌, refl, ap, sym, ◌∙◌, subst, arith, add-one, true≢false}
use Rattle.std.specs.Prelude.{◌≢◌, IsTrue}
use Rattle.std.specs.List.{AllByRecursion, list_any}
use Rattle.std.proofs.lemmas.Bool.Decides.{Decides-eqb, nat_tests}
use Rattle.std.proofs.lemmas.Option.{none-some}
use Rattle.lc_model.specs.declared.truth.Truth.{Truth}
use Rattle.lc_model.specs.declared.truth.Truth.TheVariants.{True, False, Stale, Error}
use Rattle.lc_model.specs.declared.field.Term.{Term}
use Rattle.lc_model.specs.Codes.{type_code}
use Rattle.lc_model.specs.Field.{value_of}
use Rattle.lc_model.specs.Truth.{truth_and, truth_not}
use Rattle.lc_model.specs.Condition.{Condition}
use Rattle.lc_model.specs.Tables.Equation.{mentions}
use Rattle.lc_model.specs.LimitChecker.Watch.{History, truth_by, truth_of, truth_of_term, last_packet, is_stale, judgement}
use Rattle.lc_model.specs.Laws.Lifted.{says, ShowsKnown}
use Rattle.lc_model.specs.Laws.Lagging.{IsTrueOnlyWhere}
use Rattle.lc_model.proofs.Facts.{and_first, and_second}
use Rattle.lc_model.proofs.FieldTypes.{one_type}
use Rattle.lc_model.proofs.LimitChecker.LiftedLaws.{lifted_decides}
use Rattle.rule_analysis.specs.Judgement.{is_known, place_of, Readings, found_by, Refines}
use Rattle.rule_analysis.proofs.Known.{readings_in, term_refines, parts}
use Rattle.rule_analysis.proofs.WalkLaws.{by_mentions}
use Rattle.rule_analysis.proofs.Each.{each}
use Rattle.rule_analysis.proofs.TelemetryLaws.{first_none, second_none}
use Rattle.rule_changes.specs.Known.{known_mid, is_known_alike, known_number, known_term, known_by, only_first, is_of_no_packet, terms_of_both}

-- ---- terms that are known after the same histories

-- the four parts by which a term is known, apart from its kind
pub record KnownParts (t u : Term) : Type 0 where
  pub kind : t.kind ≡ u.kind
  pub mid : t.mid ≡ u.mid
  pub offset : t.offset ≡ u.offset
  pub mask : t.mask ≡ u.mask
  pub stale : t.stale ≡ u.stale

pub parts_of : (t u : Term) → IsTrue (is_known_alike t u) → KnownParts t u
parts_of t u alike =
    let kind : Bool = type_code t.kind == type_code u.kind in
    let mid : Bool = t.mid == u.mid in
    let offset : Bool = t.offset == u.offset in
    let mask : Bool = t.mask == u.mask in
    let stale : Bool = t.stale == u.stale in
    let three = and_first (kind && mid && offset && mask) stale alike in
    let two = and_first (kind && mid && offset) mask three in
    let one = and_first (kind && mid) offset two in
    record {
      kind = one_type t.kind u.kind ((Decides-eqb (type_code t.kind) (type_code u.kind)).0 (and_first kind mid one));
      mid = (Decides-eqb t.mid u.mid).0 (and_second kind mid one);
      offset = (Decides-eqb t.offset u.offset).0 (and_second (kind && mid) offset two);
      mask = (Decides-eqb t.mask u.mask).0 (and_second (kind && mid && offset) mask three);
      stale = (Decides-eqb t.stale u.stale).0 (and_second (kind && mid && offset && mask) stale alike);
    }

-- such a term with another comparison
abbrev pub with_comparison : Term → Term → Term
with_comparison t u = record t { op = u.op; value = u.value }

pub is_with : (t u : Term) → KnownParts t u → with_comparison t u ≡ u
is_with t u same = λ i. record {
  kind = same.kind i;
  mid = same.mid i;
  offset = same.offset i;
  mask = same.mask i;
  stale = same.stale i;
  op = u.op;
  value = u.value;
}

-- whether it is known does not depend on its comparison
known_of : (t u : Term) (h : History) → is_known (truth_of_term (with_comparison t u) h) ≡ is_known (truth_of_term t h)
known_of t u h = by_last (last_packet t.mid h)
  where
    judged : Term → Option (List ℕ × ℕ) → Truth
    judged v None = Stale
    judged v (Some (packet, agings)) = if is_stale v agings then Stale else judgement v (value_of v packet)

    two_valued : (b : Bool) → is_known (if b then True else False) ≡ true
    two_valued true = refl
    two_valued false = refl

    by_value : (v : Option ℤ) → is_known (judgement (with_comparison t u) v) ≡ is_known (judgement t v)
    by_value None = refl
    by_value (Some v) = two_valued _ ∙ sym (two_valued _)

    by_age : (stale : Bool) (packet : List ℕ) →
        is_known (if stale then Stale else judgement (with_comparison t u) (value_of t packet)) ≡ is_known (if stale then Stale else judgement t (value_of t packet))
    by_age true packet = refl
    by_age false packet = by_value (value_of t packet)

    by_last : (last : Option (List ℕ × ℕ)) → is_known (judged (with_comparison t u) last) ≡ is_known (judged t last)
    by_last None = refl
    by_last (Some (packet, agings)) = by_age (is_stale t agings) packet

pub known_alike : (t u : Term) (h : History) → IsTrue (is_known_alike t u) → is_known (truth_of_term u h) ≡ is_known (truth_of_term t h)
known_alike t u h alike = ap (λ v. is_known (truth_of_term v h)) (sym (is_with t u (parts_of t u alike))) ∙ known_of t u h

-- ---- where a term stands among others

-- some term is known after the same histories
abbrev pub IsNamed : List Term → Term → Type 0
IsNamed terms t = IsTrue (list_any (λ u. is_known_alike t u) terms)

same_number : (n : ℕ) → (n == n) ≡ true
same_number n = grind (arith, nat_tests)

alike_itself : (t : Term) → is_known_alike t t ≡ true
alike_itself t = λ i. same_number (type_code t.kind) i && same_number t.mid i && same_number t.offset i && same_number t.mask i && same_number t.stale i

pub all_named : (terms : List Term) → AllByRecursion (IsNamed terms) terms
all_named [] = tt
all_named (t ∷ terms) = (
  ap (λ b. b || list_any (λ u. is_known_alike t u) terms) (alike_itself t),
  each terms (λ u named. or_second (is_known_alike u t) (list_any (λ v. is_known_alike u v) terms) named) (all_named terms),
)
  where
    or_second : (a b : Bool) → IsTrue b → IsTrue (a || b)
    or_second true b is = refl
    or_second false b is = is

some_same : {A : Type 0} (x y : A) → Some x ≡ Some y → x ≡ y
some_same x y e = cc

pub finds : (terms : List Term) (t : Term) → IsNamed terms t → (u : Term) × (slice_get terms (known_number terms t) ≡ Some u)
unfolding known_number
finds [] t named = absurd (true≢false (sym named))
finds (first ∷ terms) t named = by_test (finds terms t) (is_known_alike t first) refl
  where
    by_test : (IsNamed terms t → (u : Term) × (slice_get terms (known_number terms t) ≡ Some u)) → (b : Bool) → is_known_alike t first ≡ b →
        (u : Term) × (slice_get (first ∷ terms) (if is_known_alike t first then 0 else known_number terms t + 1) ≡ Some u)
    by_test later true e = (first, ap (λ b. slice_get (first ∷ terms) (if b then 0 else known_number terms t + 1)) e)
    by_test later false e =
        let rest : (u : Term) × (slice_get terms (known_number terms t) ≡ Some u) = later (ap (λ b. b || list_any (λ u. is_known_alike t u) terms) (sym e) ∙ named) in (
          rest.0,
          ap (λ b. slice_get (first ∷ terms) (if b then 0 else known_number terms t + 1)) e
              ∙ ap (slice_get (first ∷ terms)) (add-one (known_number terms t)) ∙ rest.1,
        )

pub found_is_alike : (terms : List Term) (t u : Term) → slice_get terms (known_number terms t) ≡ Some u → is_known_alike t u ≡ true
unfolding known_number
found_is_alike [] t u is = absurd (none-some u is)
found_is_alike (first ∷ terms) t u is = by_test (found_is_alike terms t u) (is_known_alike t first) refl
  where
    by_test : (slice_get terms (known_number terms t) ≡ Some u → is_known_alike t u ≡ true) → (b : Bool) → is_known_alike t first ≡ b → is_known_alike t u ≡ true
    by_test later true e =
        ap (is_known_alike t) (sym (some_same first u (ap (λ b. slice_get (first ∷ terms) (if b then 0 else known_number terms t + 1)) (sym e) ∙ is))) ∙ e
    by_test later false e =
        later (ap (slice_get (first ∷ terms)) (sym (add-one (known_number terms t)))
        ∙ ap (λ b. slice_get (first ∷ terms) (if b then 0 else known_number terms t + 1)) (sym e) ∙ is)

none_there : (p : Term → Bool) (terms : List Term) (n : ℕ) (u : Term) → list_any p terms ≡ false → slice_get terms n ≡ Some u → p u ≡ false
none_there p [] n u none is = absurd (none-some u is)
none_there p (first ∷ terms) zero u none is = ap p (sym (some_same first u is)) ∙ first_none (p first) (list_any p terms) none
none_there p (first ∷ terms) (suc n) u none is = none_there p terms n u (second_none (p first) (list_any p terms) none) is

-- ---- readings that say what is known

pub bit_in : History → Option Term → ℕ
bit_in h None = 0
bit_in h (Some u) = if is_known (truth_of_term u h) then 1 else 0

abbrev pub readings_with : List Term → History → Readings
readings_with terms h p = if p.mid == known_mid then bit_in h (slice_get terms p.offset) else readings_in h p

-- what a term is found to be, if it is one of the terms
abbrev found_at : Option Term → Truth → Truth
found_at None x = Stale
found_at (Some u) x = x

abbrev found_for : List Term → History → Term → Truth
found_for terms h t = found_at (slice_get terms (known_number terms t)) (truth_of_term t h)

-- the bit as a truth
abbrev pub truth_in : History → Option Term → Truth
truth_in h None = False
truth_in h (Some u) = if is_known (truth_of_term u h) then True else False

pub bit_says : (h : History) (n : ℕ) (o : Option Term) → found_by (λ p. bit_in h o) (known_term n) ≡ truth_in h o
unfolding bit_in
bit_says h n None = refl
bit_says h n (Some u) = by_test (is_known (truth_of_term u h))
  where
    by_test : (b : Bool) → found_by (λ p. if b then 1 else 0) (known_term n) ≡ (if b then True else False)
    by_test true = refl
    by_test false = refl

-- ---- known or not, both say the same

and_known : (w : Bool) (x y : Truth) → IsTrue (is_known x) → y ≡ x → (truth_and True y ≡ says true x) × (truth_and True (truth_not y) ≡ says false x)
and_known w True y known same = (same, ap truth_not same)
and_known w False y known same = (same, ap truth_not same)
and_known w Stale y known same = absurd (true≢false (sym known))
and_known w Error y known same = absurd (true≢false (sym known))

and_unknown : (x y : Truth) → is_known x ≡ false → (truth_and False y ≡ says true x) × (truth_and False (truth_not y) ≡ says false x)
and_unknown True y none = absurd (true≢false none)
and_unknown False y none = absurd (true≢false none)
and_unknown Stale y none = (refl, refl)
and_unknown Error y none = (refl, refl)

refined : (x y : Truth) → IsTrue (is_known x) → Refines x y → y ≡ x
refined True y known more = more
refined False y known more = more
refined Stale y known more = absurd (true≢false (sym known))
refined Error y known more = absurd (true≢false (sym known))

module _ (terms : List Term) (h : History) (none : list_any is_of_no_packet terms ≡ false) where
  -- a field of packets has the history's bits
  of_packets : (t : Term) → (t.mid == known_mid) ≡ false → found_by (readings_with terms h) t ≡ found_by (readings_in h) t
  of_packets t other = ap (λ b. found_by (λ p. if b then bit_in h (slice_get terms t.offset) else readings_in h (place_of t)) t) other

  shows_at : (t : Term) (o : Option Term) → slice_get terms (known_number terms t) ≡ o →
      (truth_and (truth_in h o) (found_by (readings_with terms h) t) ≡ says true (found_at o (truth_of_term t h)))
      × (truth_and (truth_in h o) (truth_not (found_by (readings_with terms h) t)) ≡ says false (found_at o (truth_of_term t h)))
  shows_at t None is = (refl, refl)
  shows_at t (Some u) is = by_test (is_known (truth_of_term t h)) refl
    where
      alike : is_known_alike t u ≡ true
      alike = found_is_alike terms t u is

      other : (t.mid == known_mid) ≡ false
      other = ap (λ mid. mid == known_mid) ((parts_of t u alike).mid) ∙ none_there is_of_no_packet terms (known_number terms t) u none is

      same : found_by (readings_with terms h) t ≡ found_by (readings_in h) t
      same = of_packets t other

      by_test : (b : Bool) → is_known (truth_of_term t h) ≡ b →
          (truth_and (truth_in h (Some u)) (found_by (readings_with terms h) t) ≡ says true (truth_of_term t h))
          × (truth_and (truth_in h (Some u)) (truth_not (found_by (readings_with terms h) t)) ≡ says false (truth_of_term t h))
      by_test true e =
          subst (λ b. (truth_and (if b then True else False) (found_by (readings_with terms h) t) ≡ says true (truth_of_term t h))
          × (truth_and (if b then True else False) (truth_not (found_by (readings_with terms h) t)) ≡ says false (truth_of_term t h)))
          (sym (known_alike t u h alike ∙ e))
          (and_known true (truth_of_term t h) (found_by (readings_with terms h) t) e
          (same ∙ refined (truth_of_term t h) (found_by (readings_in h) t) e (term_refines h t)))
      by_test false e =
          subst (λ b. (truth_and (if b then True else False) (found_by (readings_with terms h) t) ≡ says true (truth_of_term t h))
          × (truth_and (if b then True else False) (truth_not (found_by (readings_with terms h) t)) ≡ says false (truth_of_term t h)))
          (sym (known_alike t u h alike ∙ e)) (and_unknown (truth_of_term t h) (found_by (readings_with terms h) t) e)

  shows_known : ShowsKnown (known_by terms) (found_for terms h) (found_by (readings_with terms h))
  shows_known t =
      subst (λ x. (truth_and x (found_by (readings_with terms h) t) ≡ says true (found_for terms h t))
      × (truth_and x (truth_not (found_by (readings_with terms h) t)) ≡ says false (found_for terms h t)))
      (sym (bit_says h (known_number terms t) (slice_get terms (known_number terms t))))
      (shows_at t (slice_get terms (known_number terms t)) refl)

  is_found : (t : Term) → IsNamed terms t → found_for terms h t ≡ truth_of_term t h
  is_found t named = let there = finds terms t named in ap (λ o. found_at o (truth_of_term t h)) there.1

  -- what the terms are found to be is the history's truth of a condition over them
  same_truth : (c : Condition) → AllByRecursion (IsNamed terms) (mentions c) → truth_by (found_for terms h) c ≡ truth_of c h
  same_truth c named = by_mentions (found_for terms h) (λ t. truth_of_term t h) c (each (mentions c) is_found named)

  pub true_only_where : (first second : Condition) → AllByRecursion (IsNamed terms) (mentions first) → AllByRecursion (IsNamed terms) (mentions second) →
      truth_by (found_by (readings_with terms h)) (only_first terms true first second) ≢ True → truth_of first h ≡ True → truth_of second h ≡ True
  true_only_where first second first_named second_named never is =
      sym (same_truth second second_named)
      ∙ lifted_decides (known_by terms) (found_for terms h) (found_by (readings_with terms h)) shows_known first second never
      (same_truth first first_named ∙ is)

-- ---- terms that have to be known

-- the comparison that says that one of the terms is known
pub known_is : (terms : List Term) (h : History) (t : Term) → IsNamed terms t →
    truth_by (found_by (readings_with terms h)) (known_by terms t) ≡ (if is_known (truth_of_term t h) then True else False)
known_is terms h t named =
    let found = finds terms t named in
    bit_says h (known_number terms t) (slice_get terms (known_number terms t)) ∙ ap (truth_in h) found.1
    ∙ ap (λ b. if b then True else False) (known_alike t found.0 h (found_is_alike terms t found.0 found.1))

pub never_by_readings : (terms : List Term) (first second : Condition) → list_any is_of_no_packet terms ≡ false → terms ≡ terms_of_both first second →
    ((h : History) → truth_by (found_by (readings_with terms h)) (only_first terms true first second) ≢ True) → IsTrueOnlyWhere first second
never_by_readings terms first second none are never h =
    let named = parts (IsNamed terms) (mentions first) (mentions second) (subst (AllByRecursion (IsNamed terms)) are (all_named terms)) in
    true_only_where terms h none first second named.0 named.1 (never h)
