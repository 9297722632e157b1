-- The watchpoints that are numbered as they come are the distinct ones, with the numbers that they have among all of them.
use Rattle.std.proofs.Common.{◌≡◌, refl, sym, ◌∙◌, ap, ap₂, ◌+◌, ◌<◌, Bool, true, false, not, ◌&&◌, ◌||◌, List, [], ◌∷◌, ◌++◌, length, map, true≢false, arith}
use Rattle.std.specs.List.{list_any, position_or_len, filter}
use Rattle.std.proofs.lemmas.List.{append_assoc, append-nil}
use Rattle.std.proofs.lemmas.List.Folds.{list_any-append}
use Rattle.std.proofs.lemmas.Bool.{lt-ltb}
use Rattle.lc_model.specs.declared.field.Term.{Term}
use Rattle.lc_model.specs.Rule.{NamedRule}
use Rattle.lc_model.specs.Tables.Equation.{same_term, mentions, distinct, number_in, mention_numbers, terms_of}
use Rattle.lc_model.proofs.LimitChecker.ResultLaws.{one_term}
use Rattle.lc_model.proofs.Tables.SensibleLaws.{same_as}
use Rattle.lc_model.proofs.Facts.{or_other}
use Rattle.watch_sharing.specs.Numbering.{added, added_all, all_mentions, number_among, numbers_among, numbers_by_rule}
use Rattle.watch_sharing.proofs.Numbers.{added_all_append}

-- ---- tests

-- a test in the other direction
turned : (t u : Term) → same_term t u ≡ same_term u t
turned t u = go (same_term t u) refl (same_term u t) refl
  where
    go : (a : Bool) → same_term t u ≡ a → (b : Bool) → same_term u t ≡ b → same_term t u ≡ same_term u t
    go true e true f = e ∙ sym f
    go true e false f = absurd (true≢false (sym (same_as u t (sym (one_term t u e))) ∙ f))
    go false e true f = absurd (true≢false (sym (same_as t u (sym (one_term u t f))) ∙ e))
    go false e false f = e ∙ sym f

-- ---- places

-- the first place in a front is the first place in the whole
in_front : (test : Term → Bool) (xs ys : List Term) → list_any test xs ≡ true → position_or_len test (xs ++ ys) ≡ position_or_len test xs
in_front test [] ys e = absurd (true≢false (sym e))
in_front test (x ∷ xs) ys e = go (test x) refl (in_front test xs ys)
  where
    go : (b : Bool) → test x ≡ b → (list_any test xs ≡ true → position_or_len test (xs ++ ys) ≡ position_or_len test xs) →
        position_or_len test (x ∷ xs ++ ys) ≡ position_or_len test (x ∷ xs)
    go true is rest = rw is refl
    go false is rest = rw is (ap (λ n. 1 + n) (rest (or_other (test x) (list_any test xs) e is)))

-- what passes at the end has the place that none has
at_end : (test : Term → Bool) (xs : List Term) (y : Term) → test y ≡ true → position_or_len test (xs ++ y ∷ []) ≡ position_or_len test xs
at_end test [] y passes = rw passes refl
at_end test (x ∷ xs) y passes = go (test x) refl (at_end test xs y passes)
  where
    go : (b : Bool) → test x ≡ b → position_or_len test (xs ++ y ∷ []) ≡ position_or_len test xs →
        position_or_len test (x ∷ xs ++ y ∷ []) ≡ position_or_len test (x ∷ xs)
    go true is rest = rw is refl
    go false is rest = rw is (ap (λ n. 1 + n) rest)

within : (test : Term → Bool) (xs : List Term) → list_any test xs ≡ true → position_or_len test xs < length xs
within test [] e = absurd (true≢false (sym e))
within test (x ∷ xs) e = go (test x) refl (within test xs)
  where
    go : (b : Bool) → test x ≡ b → (list_any test xs ≡ true → position_or_len test xs < length xs) →
        position_or_len test (x ∷ xs) < length (x ∷ xs)
    go true is rest = rw is (omega arith)
    go false is rest = rw is (omega (arith, rest (or_other (test x) (list_any test xs) e is)))

-- the number of a term that is there
numbered : (t : Term) (xs : List Term) → list_any (same_term t) xs ≡ true → number_in xs t ≡ position_or_len (same_term t) xs
numbered t xs e = rw (lt-ltb _ _ (within (same_term t) xs e)) refl

-- ---- what is added

added_place : (ks : List Term) (t : Term) → position_or_len (same_term t) (added ks t) ≡ position_or_len (same_term t) ks
added_place ks t = go (list_any (same_term t) ks) refl
  where
    go : (b : Bool) → list_any (same_term t) ks ≡ b → position_or_len (same_term t) (added ks t) ≡ position_or_len (same_term t) ks
    go true e = rw e refl
    go false e = rw e (at_end (same_term t) ks t (same_as t t refl))

added_is_there : (ks : List Term) (t : Term) → list_any (same_term t) (added ks t) ≡ true
added_is_there ks t = go (list_any (same_term t) ks) refl
  where
    or_true : (a b : Bool) → b ≡ true → (a || b) ≡ true
    or_true true b e = refl
    or_true false b e = e

    go : (b : Bool) → list_any (same_term t) ks ≡ b → list_any (same_term t) (added ks t) ≡ true
    go true e = rw e e
    go false e =
        rw e (list_any-append (same_term t) ks (t ∷ [])
        ∙ or_true (list_any (same_term t) ks) (list_any (same_term t) (t ∷ [])) (rw (same_as t t refl) refl))

-- ---- the distinct ones

-- two filters are one
filters : (P Q R : Term → Bool) → ((u : Term) → (Q u && P u) ≡ R u) → (xs : List Term) → filter P (filter Q xs) ≡ filter R xs
filters P Q R one [] = refl
filters P Q R one (x ∷ xs) = go (Q x) refl (P x) refl (filters P Q R one xs)
  where
    go : (q : Bool) → Q x ≡ q → (p : Bool) → P x ≡ p → filter P (filter Q xs) ≡ filter R xs → filter P (filter Q (x ∷ xs)) ≡ filter R (x ∷ xs)
    go true e true f rest = rw (e, f, sym (one x) ∙ ap₂ (λ a b. a && b) e f) (ap (λ ys. x ∷ ys) rest)
    go true e false f rest = rw (e, f, sym (one x) ∙ ap₂ (λ a b. a && b) e f) rest
    go false e p f rest = rw (e, sym (one x) ∙ ap (λ a. a && P x) e) rest

-- a term that is not among these
abbrev is_new : List Term → Term → Bool
is_new ks u = not (list_any (same_term u) ks)

-- added to some terms, others leave of themselves the distinct ones that are new
pub added_all_is : (ks ts : List Term) → added_all ks ts ≡ ks ++ filter (is_new ks) (distinct ts)
unfolding added_all
added_all_is ks [] = sym (append-nil ks)
added_all_is ks (t ∷ ts) = go (list_any (same_term t) ks) refl (λ us. added_all_is us ts)
  where
    other : (e : list_any (same_term t) ks ≡ true) (u : Term) → (not (same_term t u) && is_new ks u) ≡ is_new ks u
    other e u = by (same_term t u) refl
      where
        by : (b : Bool) → same_term t u ≡ b → (not (same_term t u) && is_new ks u) ≡ is_new ks u
        by true same = rw (same, ap (λ v. list_any (same_term v) ks) (sym (one_term t u same)) ∙ e) refl
        by false same = rw same refl

    and_not : (a b c : Bool) → a ≡ b → (not a && not c) ≡ not (c || (b || false))
    and_not true b c e = rw (sym e) (by c)
      where
        by : (c : Bool) → false ≡ not (c || true)
        by true = refl
        by false = refl
    and_not false b c e = rw (sym e) (by c)
      where
        by : (c : Bool) → not c ≡ not (c || false)
        by true = refl
        by false = refl

    newer : (u : Term) → (not (same_term t u) && is_new ks u) ≡ is_new (ks ++ t ∷ []) u
    newer u =
        and_not (same_term t u) (same_term u t) (list_any (same_term u) ks) (turned t u)
        ∙ ap not (sym (list_any-append (same_term u) ks (t ∷ [])))

    go : (b : Bool) → list_any (same_term t) ks ≡ b → ((us : List Term) → added_all us ts ≡ us ++ filter (is_new us) (distinct ts)) →
        added_all (added ks t) ts ≡ ks ++ filter (is_new ks) (t ∷ filter (λ u. not (same_term t u)) (distinct ts))
    go true e rest =
        rw e (rest ks
        ∙ ap (λ us. ks ++ us) (sym (filters (is_new ks) (λ u. not (same_term t u)) (is_new ks) (other e) (distinct ts))))
    go false e rest =
        rw e (rest (ks ++ t ∷ []) ∙ append_assoc ks (t ∷ []) (filter (is_new (ks ++ t ∷ [])) (distinct ts))
        ∙ ap (λ us. ks ++ t ∷ us) (sym (filters (is_new ks) (λ u. not (same_term t u)) (is_new (ks ++ t ∷ [])) newer (distinct ts))))

-- from none on these are the distinct ones
all_kept : (xs : List Term) → filter (is_new []) xs ≡ xs
all_kept [] = refl
all_kept (x ∷ xs) = ap (λ ys. x ∷ ys) (all_kept xs)

pub terms_are : (rules : List NamedRule) → added_all [] (all_mentions rules) ≡ terms_of rules
terms_are rules = added_all_is [] (all_mentions rules) ∙ all_kept (distinct (all_mentions rules))

-- ---- their numbers

-- a term keeps its number when others come
kept_number : (ks : List Term) (t : Term) (ts : List Term) → number_among ks t ≡ number_in (added_all (added ks t) ts) t
kept_number ks t ts =
    let now : List Term = added ks t in
    let more : List Term = filter (is_new now) (distinct ts) in
    let there : list_any (same_term t) (now ++ more) ≡ true =
    list_any-append (same_term t) now more ∙ ap (λ b. b || list_any (same_term t) more) (added_is_there ks t) in
    sym (added_place ks t) ∙ sym (in_front (same_term t) now more (added_is_there ks t)) ∙ sym (numbered t (now ++ more) there)
    ∙ ap (λ us. number_in us t) (sym (added_all_is now ts))

numbers_are : (ks xs ys : List Term) → numbers_among ks xs ≡ map (number_in (added_all ks (xs ++ ys))) xs
unfolding numbers_among added_all
numbers_are ks [] ys = refl
numbers_are ks (x ∷ xs) ys = ap₂ (λ n ns. n ∷ ns) (kept_number ks x (xs ++ ys)) (numbers_are (added ks x) xs ys)

all_numbers : (ks : List Term) (rules : List NamedRule) (final : List Term) → added_all ks (all_mentions rules) ≡ final →
    numbers_by_rule ks rules ≡ map (mention_numbers final) rules
unfolding numbers_by_rule
all_numbers ks [] final e = refl
all_numbers ks (r ∷ rs) final e =
    let here : List Term = mentions r.action.condition in
    ap₂ (λ ns nss. ns ∷ nss)
    (numbers_are ks here (all_mentions rs) ∙ ap (λ us. map (number_in us) here) e)
    (all_numbers (added_all ks here) rs final (sym (added_all_append ks here (all_mentions rs)) ∙ e))

pub numbers_are_the_rules : (rules : List NamedRule) → numbers_by_rule [] rules ≡ map (mention_numbers (terms_of rules)) rules
numbers_are_the_rules rules = all_numbers [] rules (terms_of rules) (terms_are rules)
