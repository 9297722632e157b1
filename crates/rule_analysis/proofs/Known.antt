-- What is known stays, by the tables; so numbers judge histories.
use Rattle.std.proofs.Common.{◌≡◌, ℕ, ◌+◌, Bool, true, false, List, [], ◌∷◌, ◌++◌, slice_range, length, nat_lt, refl, ap, ap₂, ◌∙◌, subst, Option, Some, None, if◌then◌else◌}
use Rattle.std.specs.Prelude.{IsTrue, ◌≢◌}
use Rattle.std.specs.List.{AllByRecursion}
use Rattle.lc_model.specs.declared.truth.Truth.{Truth}
use Rattle.lc_model.specs.declared.truth.Truth.TheVariants.{True, False, Stale, Error}
use Rattle.lc_model.specs.declared.field.Term.{Term}
use Rattle.lc_model.specs.Truth.{truth_and, truth_or, truth_not}
use Rattle.lc_model.specs.Field.{raw, width, value_of}
use Rattle.lc_model.specs.Condition.{Operator, And, Or, Xor, Condition, Watch, Not, Join}
use Rattle.lc_model.specs.Tables.Equation.{mentions}
use Rattle.lc_model.specs.LimitChecker.Watch.{History, last_packet, judgement, is_stale, combined, truth_of_term, truth_by, truth_of}
use Rattle.rule_analysis.specs.Judgement.{is_known, AreKnown, found_in, value_by, Place, place_of, Readings, found_by, Refines, TablesKeep, NeverHoldsNeverFails, NeverNotIsAlways, NeverButIsWherever}

-- ---- tables

and_decides : (a : Truth) → truth_and a False ≡ False
and_decides True = refl
and_decides False = refl
and_decides Stale = refl
and_decides Error = refl

or_decides : (a : Truth) → truth_or a True ≡ True
or_decides True = refl
or_decides False = refl
or_decides Stale = refl
or_decides Error = refl

join_keeps : (o : Operator) (x y a b : Truth) → Refines x a → Refines y b → Refines (combined o x y) (combined o a b)
join_keeps And True True a b p q = ap₂ (combined And) p q
join_keeps And True False a b p q = ap₂ (combined And) p q
join_keeps And True Stale a b p q = tt
join_keeps And True Error a b p q = tt
join_keeps And False True a b p q = ap₂ (combined And) p q
join_keeps And False False a b p q = ap₂ (combined And) p q
join_keeps And False Stale a b p q = ap (λ z. combined And z b) p
join_keeps And False Error a b p q = ap (λ z. combined And z b) p
join_keeps And Stale True a b p q = tt
join_keeps And Stale False a b p q = ap (combined And a) q ∙ and_decides a
join_keeps And Stale Stale a b p q = tt
join_keeps And Stale Error a b p q = tt
join_keeps And Error True a b p q = tt
join_keeps And Error False a b p q = ap (combined And a) q ∙ and_decides a
join_keeps And Error Stale a b p q = tt
join_keeps And Error Error a b p q = tt
join_keeps Or True True a b p q = ap₂ (combined Or) p q
join_keeps Or True False a b p q = ap₂ (combined Or) p q
join_keeps Or True Stale a b p q = ap (λ z. combined Or z b) p
join_keeps Or True Error a b p q = ap (λ z. combined Or z b) p
join_keeps Or False True a b p q = ap₂ (combined Or) p q
join_keeps Or False False a b p q = ap₂ (combined Or) p q
join_keeps Or False Stale a b p q = tt
join_keeps Or False Error a b p q = tt
join_keeps Or Stale True a b p q = ap (combined Or a) q ∙ or_decides a
join_keeps Or Stale False a b p q = tt
join_keeps Or Stale Stale a b p q = tt
join_keeps Or Stale Error a b p q = tt
join_keeps Or Error True a b p q = ap (combined Or a) q ∙ or_decides a
join_keeps Or Error False a b p q = tt
join_keeps Or Error Stale a b p q = tt
join_keeps Or Error Error a b p q = tt
join_keeps Xor True True a b p q = ap₂ (combined Xor) p q
join_keeps Xor True False a b p q = ap₂ (combined Xor) p q
join_keeps Xor True Stale a b p q = tt
join_keeps Xor True Error a b p q = tt
join_keeps Xor False True a b p q = ap₂ (combined Xor) p q
join_keeps Xor False False a b p q = ap₂ (combined Xor) p q
join_keeps Xor False Stale a b p q = tt
join_keeps Xor False Error a b p q = tt
join_keeps Xor Stale True a b p q = tt
join_keeps Xor Stale False a b p q = tt
join_keeps Xor Stale Stale a b p q = tt
join_keeps Xor Stale Error a b p q = tt
join_keeps Xor Error True a b p q = tt
join_keeps Xor Error False a b p q = tt
join_keeps Xor Error Stale a b p q = tt
join_keeps Xor Error Error a b p q = tt

not_keeps : (x a : Truth) → Refines x a → Refines (truth_not x) (truth_not a)
not_keeps True a p = ap truth_not p
not_keeps False a p = ap truth_not p
not_keeps Stale a p = tt
not_keeps Error a p = tt

pub tables_keep : TablesKeep
tables_keep found fuller more (Watch t) = more t
tables_keep found fuller more (Not c) = not_keeps (truth_by found c) (truth_by fuller c) (tables_keep found fuller more c)
tables_keep found fuller more (Join o a b) =
    join_keeps o (truth_by found a) (truth_by found b) (truth_by fuller a) (truth_by fuller b)
    (tables_keep found fuller more a) (tables_keep found fuller more b)

-- ---- numbers of a history

-- what the last packets say of the fields, 0 where there is none
abbrev pub reading_of : Place → Option (List ℕ × ℕ) → ℕ
reading_of p None = 0
reading_of p (Some (packet, agings)) = raw p.kind (slice_range packet p.offset (p.offset + width p.kind))

abbrev pub readings_in : History → Readings
readings_in h p = reading_of p (last_packet p.mid h)

pub refines-same : (x : Truth) → Refines x x
refines-same True = refl
refines-same False = refl
refines-same Stale = tt
refines-same Error = tt

-- a term's truth in a history is what these numbers say, or it is unknown
pub term_refines : (h : History) (t : Term) → Refines (truth_of_term t h) (found_by (readings_in h) t)
term_refines h t = by_last (last_packet t.mid h)
  where
    judged : Option (List ℕ × ℕ) → Truth
    judged None = Stale
    judged (Some (packet, agings)) = if is_stale t agings then Stale else judgement t (value_of t packet)

    by_length : (short : Bool) (packet : List ℕ) →
        Refines (judgement t (if short then None else Some (value_by (place_of t) (reading_of (place_of t) (Some (packet, 0))))))
        (judgement t (Some (value_by (place_of t) (reading_of (place_of t) (Some (packet, 0))))))
    by_length true packet = tt
    by_length false packet = refines-same (judgement t (Some (value_by (place_of t) (reading_of (place_of t) (Some (packet, 0))))))

    by_age : (stale : Bool) (packet : List ℕ) →
        Refines (if stale then Stale else judgement t (value_of t packet)) (judgement t (Some (value_by (place_of t) (reading_of (place_of t) (Some (packet, 0))))))
    by_age true packet = tt
    by_age false packet = by_length (nat_lt (length packet) (t.offset + width t.kind)) packet

    by_last : (last : Option (List ℕ × ℕ)) → Refines (judged last) (judgement t (Some (value_by (place_of t) (reading_of (place_of t) last))))
    by_last None = tt
    by_last (Some (packet, agings)) = by_age (is_stale t agings) packet

pub never_holds_never_fails : NeverHoldsNeverFails
never_holds_never_fails c never history true_there =
    never (readings_in history)
    (subst (λ x. Refines x (truth_by (found_by (readings_in history)) c)) true_there
    (tables_keep (found_in history) (found_by (readings_in history)) (term_refines history) c))

-- ---- where all is known

join_known : (o : Operator) (x y : Truth) → IsTrue (is_known x) → IsTrue (is_known y) → IsTrue (is_known (combined o x y))
join_known And True True k l = refl
join_known And True False k l = refl
join_known And True Stale k l = l
join_known And True Error k l = l
join_known And False True k l = refl
join_known And False False k l = refl
join_known And False Stale k l = refl
join_known And False Error k l = refl
join_known And Stale True k l = k
join_known And Stale False k l = refl
join_known And Stale Stale k l = k
join_known And Stale Error k l = k
join_known And Error True k l = k
join_known And Error False k l = refl
join_known And Error Stale k l = k
join_known And Error Error k l = k
join_known Or True True k l = refl
join_known Or True False k l = refl
join_known Or True Stale k l = refl
join_known Or True Error k l = refl
join_known Or False True k l = refl
join_known Or False False k l = refl
join_known Or False Stale k l = l
join_known Or False Error k l = l
join_known Or Stale True k l = refl
join_known Or Stale False k l = k
join_known Or Stale Stale k l = k
join_known Or Stale Error k l = k
join_known Or Error True k l = refl
join_known Or Error False k l = k
join_known Or Error Stale k l = k
join_known Or Error Error k l = k
join_known Xor True True k l = refl
join_known Xor True False k l = refl
join_known Xor True Stale k l = l
join_known Xor True Error k l = l
join_known Xor False True k l = refl
join_known Xor False False k l = refl
join_known Xor False Stale k l = l
join_known Xor False Error k l = l
join_known Xor Stale True k l = k
join_known Xor Stale False k l = k
join_known Xor Stale Stale k l = k
join_known Xor Stale Error k l = k
join_known Xor Error True k l = k
join_known Xor Error False k l = k
join_known Xor Error Stale k l = k
join_known Xor Error Error k l = k

not_known : (x : Truth) → IsTrue (is_known x) → IsTrue (is_known (truth_not x))
not_known True k = refl
not_known False k = refl
not_known Stale k = k
not_known Error k = k

pub parts : (P : Term → Type 0) (xs ys : List Term) → AllByRecursion P (xs ++ ys) → AllByRecursion P xs × AllByRecursion P ys
parts P [] ys all = (tt, all)
parts P (x ∷ xs) ys all = let rest = parts P xs ys all.1 in ((all.0, rest.0), rest.1)

pub known_where_all_is : (found : Term → Truth) (c : Condition) → AreKnown c found → IsTrue (is_known (truth_by found c))
known_where_all_is found (Watch t) all = all.0
known_where_all_is found (Not c) all = not_known (truth_by found c) (known_where_all_is found c all)
known_where_all_is found (Join o a b) all =
    let both = parts (λ t. IsTrue (is_known (found t))) (mentions a) (mentions b) all in
    join_known o (truth_by found a) (truth_by found b) (known_where_all_is found a both.0) (known_where_all_is found b both.1)

never_not : (x : Truth) → IsTrue (is_known x) → truth_not x ≢ True → x ≡ True
never_not True k n = refl
never_not False k n = absurd (n refl)
never_not Stale k n = cc
never_not Error k n = cc

pub never_not_is_always : NeverNotIsAlways
never_not_is_always c never history all = never_not (truth_of c history) (known_where_all_is (found_in history) c all) (never history)

never_but : (x y : Truth) → x ≡ True → IsTrue (is_known y) → truth_and x (truth_not y) ≢ True → y ≡ True
never_but x True e k n = refl
never_but x False e k n = absurd (n (ap (λ z. truth_and z True) e))
never_but x Stale e k n = cc
never_but x Error e k n = cc

pub never_but_is_wherever : NeverButIsWherever
never_but_is_wherever a b never history fails all =
    never_but (truth_of a history) (truth_of b history) fails (known_where_all_is (found_in history) b all) (never history)
