-- Rules of the same number, and the sequences that they request.
use Rattle.std.proofs.Common.{◌≡◌, ◌∙◌, refl, sym, ap, subst, inl, inr, ◌⊎◌, arith, ℕ, zero, suc, ◌+◌, ◌<◌, ◌≤◌, nat_lt, Bool, true, false, true≢false, List, [], ◌∷◌, length, map, Option, Some, None, slice_get, option_map, is_none}
use Rattle.std.specs.Prelude.{IsTrue, IsSomeAnd, MatchOption}
use Rattle.std.specs.List.{AllZip}
use Rattle.std.proofs.lemmas.Bool.{ltb-false, ltb-true}
use Rattle.std.proofs.lemmas.Option.{none-some}
use Rattle.std.proofs.lemmas.Slice.Zip.{AllZip-right}
use Rattle.lc_model.specs.declared.rule.Rule.{Rule}
use Rattle.lc_model.specs.Rule.{Actionpoint, NamedRule, actions, rule_of, rules_of}
use Rattle.rule_changes.specs.declared.rule_change.RuleChange.{RuleChange}
use Rattle.rule_changes.specs.declared.sequences.SequenceChange.{SequenceChange}
use Rattle.rule_changes.specs.declared.sequences.SequenceChange.TheVariants as change
use Rattle.rule_changes.specs.RuleChanges.{IsChangeOf, IsRenamed, IsValueChange}
use Rattle.rule_changes.specs.Runs.{RequestsAlike, RequestsNoSooner, RequestsNone, AreAlikeFor, AreNoSoonerFor}
use Rattle.rule_changes.specs.Sequences.{AreNoneOf, BothFit, ConditionsFit, CountsFit, IsFitAt, IsNoneOf, IsSequenceChange, RulesFit, is_sequence}

-- ---- two rules

pub same_value : {A : Type 0} (old new : A) (changed : Option (A × A)) → is_none changed ≡ true → IsValueChange old new changed → old ≡ new
same_value old new None none same = same
same_value old new (Some both) none is = absurd (true≢false (sym none))

pub same_counts : (claim : SequenceChange) (old new : ℕ) → old ≡ new → CountsFit claim old new
same_counts change.Same old new same = same
same_counts change.NoMoreOften old new same = omega (arith, same)
same_counts change.NoLessOften old new same = omega (arith, same)
same_counts change.Unknown old new same = tt

pub rules_fit : (claim : SequenceChange) (old new : Actionpoint) → old.mode ≡ new.mode → old.sequence ≡ new.sequence →
    CountsFit claim old.fails new.fails → ConditionsFit claim old.condition new.condition → RulesFit claim old new
rules_fit change.Same old new mode sequence fails conditions =
    record { only = conditions.0; wherever = conditions.1; mode = mode; fails = fails; sequence = sequence }
rules_fit change.NoMoreOften old new mode sequence fails only =
    record { later = record { fails = fails; only = only }; mode = mode; sequence = sequence }
rules_fit change.NoLessOften old new mode sequence fails only =
    record { later = record { fails = fails; only = only }; mode = sym mode; sequence = sym sequence }
rules_fit change.Unknown old new mode sequence fails only = tt

renamed_conditions : (claim : SequenceChange) (old new : Actionpoint) → IsRenamed old new → ConditionsFit claim old.condition new.condition
renamed_conditions change.Same old new is = (is.alike.1, is.alike.0)
renamed_conditions change.NoMoreOften old new is = is.alike.1
renamed_conditions change.NoLessOften old new is = is.alike.0
renamed_conditions change.Unknown old new is = tt

pub renamed_fit : (claim : SequenceChange) (old new : Actionpoint) → IsRenamed old new → RulesFit claim old new
renamed_fit claim old new is =
    rules_fit claim old new (sym (ap (λ (a : Actionpoint). a.mode) is.parts)) (sym (ap (λ (a : Actionpoint). a.sequence) is.parts))
    (same_counts claim old.fails new.fails (sym (ap (λ (a : Actionpoint). a.fails) is.parts))) (renamed_conditions claim old new is)

-- ---- all rules

-- one more number was looked at
pub one_more_fits : (claim : SequenceChange) (wanted : ℕ → Bool) (olds news : List NamedRule) (number : ℕ) →
    ((j : ℕ) → j < number → IsFitAt claim wanted (slice_get olds j) (slice_get news j)) →
    IsFitAt claim wanted (slice_get olds number) (slice_get news number) →
    (j : ℕ) → j < number + 1 → IsFitAt claim wanted (slice_get olds j) (slice_get news j)
one_more_fits claim wanted olds news number before here j below = by_place (nat_lt j number) refl
  where
    by_place : (is_before : Bool) → nat_lt j number ≡ is_before → IsFitAt claim wanted (slice_get olds j) (slice_get news j)
    by_place true is = before j (ltb-true j number is)
    by_place false is =
        let same : number ≡ j = omega (arith, below, ltb-false j number is) in
        subst (λ k. IsFitAt claim wanted (slice_get olds k) (slice_get news k)) same here

alike_for : (wanted : ℕ → Bool) (olds news : List NamedRule) → ((j : ℕ) → IsFitAt change.Same wanted (slice_get olds j) (slice_get news j)) →
    AreAlikeFor wanted (actions olds) (actions news)
alike_for wanted [] [] all = tt
alike_for wanted (old ∷ olds) [] all = (lone (all 0), alike_for wanted olds [] (λ j. all (suc j)))
  where
    lone : IsFitAt change.Same wanted (Some old) None → RequestsNone wanted old.action
    lone (inl both) = absurd both
    lone (inr none) = none.0
alike_for wanted [] (new ∷ news) all = (lone (all 0), alike_for wanted [] news (λ j. all (suc j)))
  where
    lone : IsFitAt change.Same wanted None (Some new) → RequestsNone wanted new.action
    lone (inl both) = absurd both
    lone (inr none) = none.1
alike_for wanted (old ∷ olds) (new ∷ news) all = (all 0, alike_for wanted olds news (λ j. all (suc j)))

no_sooner_for : (wanted : ℕ → Bool) (olds news : List NamedRule) → ((j : ℕ) → IsFitAt change.NoMoreOften wanted (slice_get olds j) (slice_get news j)) →
    AreNoSoonerFor wanted (actions olds) (actions news)
no_sooner_for wanted olds [] all = tt
no_sooner_for wanted [] (new ∷ news) all = (lone (all 0), no_sooner_for wanted [] news (λ j. all (suc j)))
  where
    lone : IsFitAt change.NoMoreOften wanted None (Some new) → RequestsNone wanted new.action
    lone (inl both) = absurd both
    lone (inr none) = none
no_sooner_for wanted (old ∷ olds) (new ∷ news) all = (all 0, no_sooner_for wanted olds news (λ j. all (suc j)))

-- the same with the texts exchanged
exchanged : (wanted : ℕ → Bool) (old new : Option NamedRule) → IsFitAt change.NoLessOften wanted old new → IsFitAt change.NoMoreOften wanted new old
exchanged wanted None None (inl both) = absurd both
exchanged wanted None (Some new) (inl both) = absurd both
exchanged wanted (Some old) None (inl both) = absurd both
exchanged wanted (Some old) (Some new) (inl both) = inl both
exchanged wanted old new (inr none) = inr none

all_numbers : (claim : SequenceChange) (sequence : ℕ) (olds news : List NamedRule) →
    ((j : ℕ) → IsFitAt claim (is_sequence sequence) (slice_get olds j) (slice_get news j)) → IsSequenceChange olds news sequence claim
all_numbers change.Same sequence olds news all = alike_for (is_sequence sequence) olds news all
all_numbers change.NoMoreOften sequence olds news all = no_sooner_for (is_sequence sequence) olds news all
all_numbers change.NoLessOften sequence olds news all =
    no_sooner_for (is_sequence sequence) news olds (λ j. exchanged (is_sequence sequence) (slice_get olds j) (slice_get news j) (all j))
all_numbers change.Unknown sequence olds news all = tt

-- past both lists there is no rule
both_past : (claim : SequenceChange) (wanted : ℕ → Bool) → IsFitAt claim wanted None None
both_past change.Same wanted = inr (tt, tt)
both_past change.NoMoreOften wanted = inr tt
both_past change.NoLessOften wanted = inr tt
both_past change.Unknown wanted = inr tt

none_past : (rules : List Rule) (number : ℕ) → length rules ≤ number → slice_get (rules_of rules) number ≡ None
none_past [] number past = refl
none_past (rule ∷ rules) zero past = absurd (omega (arith, past))
none_past (rule ∷ rules) (suc number) past = none_past rules number (omega (arith, past))

pub all_fit : (claim : SequenceChange) (sequence : ℕ) (olds news : List Rule) (number : ℕ) → length olds ≤ number → length news ≤ number →
    ((j : ℕ) → j < number → IsFitAt claim (is_sequence sequence) (slice_get (rules_of olds) j) (slice_get (rules_of news) j)) →
    IsSequenceChange (rules_of olds) (rules_of news) sequence claim
all_fit claim sequence olds news number most_old most_new before = all_numbers claim sequence (rules_of olds) (rules_of news) (λ j. by_place j (nat_lt j number) refl)
  where
    by_place : (j : ℕ) (is_before : Bool) → nat_lt j number ≡ is_before → IsFitAt claim (is_sequence sequence) (slice_get (rules_of olds) j) (slice_get (rules_of news) j)
    by_place j true is = before j (ltb-true j number is)
    by_place j false is =
        rw (none_past olds j (omega (arith, most_old, ltb-false j number is)), none_past news j (omega (arith, most_new, ltb-false j number is)))
        (both_past claim (is_sequence sequence))

-- ---- a change and its rules

pub changed_fit : (claim : SequenceChange) (number : ℕ) (olds news : List NamedRule) (changes : List RuleChange) (change : RuleChange) (fits : Bool) →
    slice_get changes number ≡ Some change →
    ((olds : List NamedRule) (rule : NamedRule) → IsChangeOf olds rule change → IsTrue fits → BothFit claim (slice_get olds number) (Some rule)) →
    AllZip (IsChangeOf olds) news changes → IsTrue fits → BothFit claim (slice_get olds number) (slice_get news number)
changed_fit claim number olds news changes change fits there each all is =
    by_rule (slice_get news number) refl (subst (λ (c : Option RuleChange). MatchOption c (Unit {0}) (λ y. IsSomeAnd (slice_get news number) (λ x. IsChangeOf olds x y))) there (AllZip-right (IsChangeOf olds) news changes all number))
  where
    by_rule : (rule : Option NamedRule) → slice_get news number ≡ rule → IsSomeAnd (slice_get news number) (λ x. IsChangeOf olds x change) →
        BothFit claim (slice_get olds number) (slice_get news number)
    by_rule None none some = absurd (subst (λ (r : Option NamedRule). IsSomeAnd r (λ x. IsChangeOf olds x change)) none some)
    by_rule (Some rule) own some =
        subst (BothFit claim (slice_get olds number)) (sym own)
        (each olds rule (subst (λ (r : Option NamedRule). IsSomeAnd r (λ x. IsChangeOf olds x change)) own some) is)
