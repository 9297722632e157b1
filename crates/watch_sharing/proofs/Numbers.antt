-- Numbers that watchpoints get as they come, one after the other.
use Rattle.std.proofs.Common.{◌≡◌, refl, sym, ◌∙◌, ap, ℕ, ◌+◌, ◌≤◌, ◌<◌, ◌⊎◌, inl, inr, Bool, true, false, List, [], ◌∷◌, ◌++◌, length, take, drop, get_or, arith}
use Rattle.std.specs.List.{list_any}
use Rattle.std.specs.Prelude.{Result, Ok, Err, IfErr}
use Rattle.std.proofs.lemmas.List.{append_assoc, append-nil, length-append, map-append, take-append-drop}
use Rattle.std.proofs.lemmas.Grind.{flat_map-append}
use Rattle.lc_model.specs.declared.field.Term.{Term}
use Rattle.lc_model.specs.declared.rule.Rule.{Rule}
use Rattle.lc_model.specs.Condition.{condition_of}
use Rattle.lc_model.specs.Rule.{NamedRule, rule_of, rules_of}
use Rattle.lc_model.specs.Tables.Equation.{same_term, mentions}
use Rattle.lc_model.specs.Codes.{table_entries}
use Rattle.lc_model.proofs.Exits.{rules_more}
use Rattle.watch_sharing.specs.declared.error.ShareError.{ShareError}
use Rattle.watch_sharing.specs.declared.error.ShareError.TheVariants.{Memory}
use Rattle.watch_sharing.specs.Fault.{IsTooManyUnlessMemory}
use Rattle.watch_sharing.specs.Numbering.{added, added_all, all_mentions, number_among, numbers_among, numbers_by_rule}

-- ---- one list after the other

pub added_all_append : (ks xs ys : List Term) → added_all ks (xs ++ ys) ≡ added_all (added_all ks xs) ys
unfolding added_all
added_all_append ks [] ys = refl
added_all_append ks (x ∷ xs) ys = added_all_append (added ks x) xs ys

pub numbers_append : (ks xs ys : List Term) → numbers_among ks (xs ++ ys) ≡ numbers_among ks xs ++ numbers_among (added_all ks xs) ys
unfolding added_all numbers_among
numbers_append ks [] ys = refl
numbers_append ks (x ∷ xs) ys = ap (λ ns. number_among ks x ∷ ns) (numbers_append (added ks x) xs ys)

-- ---- there are never fewer

added_grows : (ks : List Term) (t : Term) → length ks ≤ length (added ks t)
added_grows ks t = go (list_any (same_term t) ks) refl
  where
    go : (b : Bool) → list_any (same_term t) ks ≡ b → length ks ≤ length (added ks t)
    go true e = rw e (omega arith)
    go false e = rw e (omega (arith, length-append ks (t ∷ [])))

pub grows : (ks xs : List Term) → length ks ≤ length (added_all ks xs)
unfolding added_all
grows ks [] = omega arith
grows ks (x ∷ xs) = omega (arith, added_grows ks x, grows (added ks x) xs)

-- too many stay too many
pub more_too_many : (ks xs ys : List Term) (error : ShareError) → IsTooManyUnlessMemory (added_all ks xs) error →
    IsTooManyUnlessMemory (added_all ks (xs ++ ys)) error
more_too_many ks xs ys error (inl memory) = inl memory
more_too_many ks xs ys error (inr many) =
    inr (many.0, omega (arith, many.1, grows (added_all ks xs) ys, ap length (added_all_append ks xs ys)))

-- ---- one rule after the other

pub mentions_push : (rs : List NamedRule) (r : NamedRule) → all_mentions (rs ++ r ∷ []) ≡ all_mentions rs ++ mentions r.action.condition
mentions_push [] r = append-nil (mentions r.action.condition)
mentions_push (x ∷ rs) r =
    ap (λ ts. mentions x.action.condition ++ ts) (mentions_push rs r)
    ∙ sym (append_assoc (mentions x.action.condition) (all_mentions rs) (mentions r.action.condition))

pub rules_push : (ks : List Term) (rs : List NamedRule) (r : NamedRule) →
    numbers_by_rule ks (rs ++ r ∷ []) ≡ numbers_by_rule ks rs ++ numbers_among (added_all ks (all_mentions rs)) (mentions r.action.condition) ∷ []
unfolding numbers_by_rule added_all
rules_push ks [] r = refl
rules_push ks (x ∷ rs) r =
    ap (λ nss. numbers_among ks (mentions x.action.condition) ∷ nss)
    (rules_push (added_all ks (mentions x.action.condition)) rs r
    ∙ ap (λ ts. numbers_by_rule (added_all ks (mentions x.action.condition)) rs ++ numbers_among ts (mentions r.action.condition) ∷ [])
    (sym (added_all_append ks (mentions x.action.condition) (all_mentions rs))))

-- the mentions of all rules go on behind those of the rules up to a place and of the next
pub all_go_on : (rules : List Rule) (i : ℕ) (r : Rule) → i < length rules → r ≡ get_or rules i r →
    all_mentions (rules_of rules)
    ≡ all_mentions (rules_of (take i rules)) ++ mentions (condition_of r.cond) ++ all_mentions (rules_of (drop (i + 1) rules))
all_go_on rules i r within is =
    ap (λ rs. all_mentions (rules_of rs)) (sym (take-append-drop (i + 1) rules))
    ∙ ap all_mentions (map-append rule_of (take (i + 1) rules) (drop (i + 1) rules))
    ∙ flat_map-append (λ (x : NamedRule). mentions x.action.condition) (rules_of (take (i + 1) rules)) (rules_of (drop (i + 1) rules))
    ∙ ap (λ ts. ts ++ all_mentions (rules_of (drop (i + 1) rules)))
    (ap all_mentions (rules_more rules i r within is) ∙ mentions_push (rules_of (take i rules)) (rule_of r))

-- ---- answers

pub one_of_three : {A B C P : Type 0} → (A → P) → (B → P) → (C → P) → A ⊎ (B ⊎ C) → P
one_of_three f g h (inl a) = f a
one_of_three f g h (inr (inl b)) = g b
one_of_three f g h (inr (inr c)) = h c

-- where they are not too many, the error is want of memory
pub only_memory : {T : Type 0} (terms : List Term) (r : Result T ShareError) → length terms ≤ table_entries → IfErr r (IsTooManyUnlessMemory terms) →
    IfErr r (λ e. e ≡ Memory)
only_memory terms (Ok found) few is = is
only_memory terms (Err error) few (inl memory) = memory
only_memory terms (Err error) few (inr many) = absurd (omega (arith, few, many.1))
