-- The first fault, met in one part of the faults after the other.
use Rattle.std.proofs.Common.{◌≡◌, refl, sym, ◌∙◌, ap, ℕ, Bool, true, false, cond, List, [], ◌∷◌, ◌++◌, Option, Some, None, arith, ◌<◌, ◌+◌, length, take, get_or, append-nil}
use Rattle.std.specs.Prelude.{flat_map}
use Rattle.std.proofs.lemmas.List.{take_more}
use Rattle.std.proofs.lemmas.List.Concat.{flat_map-append}
use Rattle.std.proofs.lemmas.Bool.Decides.{nat_tests}
use Rattle.lc_model.specs.Text.Meaning.{TextFault, precedes, earlier_of, first_fault}
use Rattle.field_checker.specs.Faults.{after}

-- nothing is met
pub nothing_met : (first : Option TextFault) → first ≡ after first []
unfolding after
nothing_met first = refl

after-append : (first : Option TextFault) (xs ys : List TextFault) → after first (xs ++ ys) ≡ after (after first xs) ys
unfolding after
after-append first [] ys = refl
after-append first (x ∷ xs) ys = after-append (Some (earlier_of x first)) xs ys

-- these faults, and then those
pub both_met : (first middle last : Option TextFault) (xs ys : List TextFault) → middle ≡ after first xs → last ≡ after middle ys → last ≡ after first (xs ++ ys)
both_met first middle last xs ys e f = f ∙ (ap (λ o. after o ys) e ∙ sym (after-append first xs ys))

-- the faults of one item more
pub of_more : {X : Type 0} (f : X → List TextFault) (xs : List X) (i : ℕ) (d : X) → i < length xs →
    flat_map f (take (i + 1) xs) ≡ flat_map f (take i xs) ++ f (get_or xs i d)
of_more f xs i d lt =
    ap (flat_map f) (take_more xs i d lt) ∙ (flat_map-append f (take i xs) (get_or xs i d ∷ [])
    ∙ ap (λ ys. flat_map f (take i xs) ++ ys) (append-nil (f (get_or xs i d))))

-- ---- the order of faults

total : (f g : TextFault) → precedes f g ≡ false → precedes g f ≡ true
total f g e = grind (arith, nat_tests, e)

same : (f g : TextFault) → precedes f g ≡ true → precedes g f ≡ true → f ≡ g
same f g e e1 =
    let code : f.code ≡ g.code = grind (arith, nat_tests, e, e1) in
    let at : f.at ≡ g.at = grind (arith, nat_tests, e, e1) in
    λ i. record { code = code i; at = at i }

through : (f g h : TextFault) → precedes f g ≡ true → precedes g h ≡ true → precedes f h ≡ true
through f g h e e1 = grind (arith, nat_tests, e, e1)

-- the earliest of three, whichever two are compared first
regrouped : (x f : TextFault) (rest : Option TextFault) → earlier_of (earlier_of x (Some f)) rest ≡ earlier_of f (Some (earlier_of x rest))
regrouped x f None = of_two (precedes x f) (precedes f x) refl refl
  where
    of_two : (a b : Bool) → precedes x f ≡ a → precedes f x ≡ b → cond a x f ≡ cond b f x
    of_two true true e e1 = same x f e e1
    of_two true false e e1 = refl
    of_two false true e e1 = refl
    of_two false false e e1 = absurd (cc (total x f e, e1))
regrouped x f (Some g) = of_three (precedes x f) (precedes x g) (precedes f g) (precedes f x) refl refl refl refl
  where
    -- each test of the claim, once it is decided which of two stands there
    left : Bool → Bool → Bool → TextFault
    left true b c = cond b x g
    left false b c = cond c f g

    right : Bool → Bool → Bool → TextFault
    right true c d = cond d f x
    right false c d = cond c f g

    split_left : (a : Bool) → earlier_of (cond a x f) (Some g) ≡ left a (precedes x g) (precedes f g)
    split_left true = refl
    split_left false = refl

    split_right : (b : Bool) → earlier_of f (Some (cond b x g)) ≡ right b (precedes f g) (precedes f x)
    split_right true = refl
    split_right false = refl

    sides : (a b c d : Bool) → precedes x f ≡ a → precedes x g ≡ b → precedes f g ≡ c → precedes f x ≡ d → left a b c ≡ right b c d
    sides true true c true e e1 e2 e3 = same x f e e3
    sides true true c false e e1 e2 e3 = refl
    sides true false true d e e1 e2 e3 = same g f (through g x f (total x g e1) e) e2
    sides true false false d e e1 e2 e3 = refl
    sides false true true true e e1 e2 e3 = refl
    sides false true false true e e1 e2 e3 = absurd (cc (through f x g e3 e1, e2))
    sides false true c false e e1 e2 e3 = absurd (cc (total x f e, e3))
    sides false false c d e e1 e2 e3 = refl

    of_three : (a b c d : Bool) → precedes x f ≡ a → precedes x g ≡ b → precedes f g ≡ c → precedes f x ≡ d →
        earlier_of (cond (precedes x f) x f) (Some g) ≡ earlier_of f (Some (cond (precedes x g) x g))
    of_three a b c d e e1 e2 e3 =
        split_left (precedes x f)
        ∙ ((λ i. left (e i) (e1 i) (e2 i)) ∙ (sides a b c d e e1 e2 e3 ∙ sym (λ i. right (e1 i) (e2 i) (e3 i))))
        ∙ sym (split_right (precedes x g))

-- the first of those that were met before and of these
after_first : (f : TextFault) (fs : List TextFault) → after (Some f) fs ≡ Some (earlier_of f (first_fault fs))
unfolding after
after_first f [] = refl
after_first f (x ∷ xs) = after_first (earlier_of x (Some f)) xs ∙ ap Some (regrouped x f (first_fault xs))

-- the first of all
pub after_all : (fs : List TextFault) → after None fs ≡ first_fault fs
unfolding after
after_all [] = refl
after_all (x ∷ xs) = after_first x xs
