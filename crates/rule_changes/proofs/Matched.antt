-- Rules of two texts that belong together.
use Rattle.std.proofs.Common.{◌≡◌, ℕ, zero, suc, ◌+◌, ◌<◌, Bool, true, false, not, List, [], ◌∷◌, length, get_or, slice_get, Some, refl, ap, sym, ◌∙◌, subst, arith}
use Rattle.std.specs.Prelude.{IsTrue, Contains, ◌≢◌}
use Rattle.std.specs.List.{list_any}
use Rattle.std.proofs.lemmas.Option.{none-some}
use Rattle.lc_model.specs.declared.rule.Rule.{Rule}
use Rattle.lc_model.specs.Rule.{NamedRule, rule_of, rules_of}
use Rattle.rule_analysis.proofs.Each.{there_mapped}
use Rattle.rule_analysis.proofs.WalkLaws.{decided}
use Rattle.rule_changes.specs.declared.rule_change.ChangedParts.{ChangedParts}
use Rattle.rule_changes.specs.declared.rule_change.RuleChange.{RuleChange}
use Rattle.rule_changes.specs.declared.condition_change.ConditionChange.{ConditionChange}
use Rattle.rule_changes.specs.ConditionChanges.{IsConditionChange}
use Rattle.rule_changes.specs.RuleChanges.{ArePartsOf, IsGone, IsKept, IsNumberOf, has_name, is_of}

pub same_some : {A : Type 0} (x y : A) → Some x ≡ Some y → x ≡ y
same_some x y e = cc

is_inside : (rules : List Rule) (number : ℕ) (rule : NamedRule) → slice_get (rules_of rules) number ≡ Some rule → number < length rules
is_inside [] number rule is = absurd (none-some rule is)
is_inside (first ∷ rules) zero rule is = omega arith
is_inside (first ∷ rules) (suc number) rule is = omega (arith, is_inside rules number rule is)

-- the rule at a place of the program's list
pub rule_there : (rules : List Rule) (number : ℕ) (item : Rule) → number < length rules → item ≡ get_or rules number item →
    slice_get (rules_of rules) number ≡ Some (rule_of item)
rule_there rules number item below is = there_mapped rule_of rules number item below is

pub number_is : (rules : List Rule) (name : List ℕ) (number : ℕ) (item : Rule) (same : Bool) → number < length rules → item ≡ get_or rules number item →
    same ≡ has_name name (rule_of item) → same ≡ true → IsNumberOf (rules_of rules) name number
number_is rules name number item same below is tests has = (rule_of item, rule_there rules number item below is, sym tests ∙ has)

pub kept_is : (old : List Rule) (number : ℕ) (item : Rule) (rule : NamedRule) (parts : ChangedParts) (condition : ConditionChange) →
    IsNumberOf (rules_of old) rule.name number → item ≡ get_or old number item → ArePartsOf (rule_of item).action rule.action parts →
    IsConditionChange (rule_of item).action.condition rule.action.condition condition → IsKept (rules_of old) rule number parts condition
kept_is old number item rule parts condition named is parts_are condition_is =
    let there = rule_there old number item (is_inside old number named.0 named.1) is in
    record {
      former = rule_of item;
      former_is = there;
      name = subst (λ (r : NamedRule). IsTrue (has_name rule.name r)) (same_some named.0 (rule_of item) (sym named.1 ∙ there)) named.2;
      parts_are = parts_are;
      condition_is = condition_is;
    }

pub gone_if : (old new : List Rule) (changes : List RuleChange) (number : ℕ) (item : Rule) (name : List ℕ) (listed named : Bool) → number < length old →
    item ≡ get_or old number item → name ≡ (rule_of item).name → listed ≡ list_any (is_of number) changes → listed ≡ false →
    named ≡ list_any (has_name name) (rules_of new) → IsTrue (not named) → IsGone (rules_of old) (rules_of new) changes number
gone_if old new changes number item name listed named below is own lists unlisted names unnamed = record {
  former = rule_of item;
  former_is = rule_there old number item below is;
  unlisted = sym lists ∙ unlisted;
  no_name = ap (λ own_name. list_any (has_name own_name) (rules_of new)) (sym own) ∙ sym names ∙ not_true named unnamed;
}
  where
    not_true : (b : Bool) → IsTrue (not b) → b ≡ false
    not_true true e = sym e
    not_true false e = refl

pub gone_has_no_name : (old new : List Rule) (changes : List RuleChange) (number : ℕ) (item : Rule) (name : List ℕ) (named : Bool) → number < length old →
    item ≡ get_or old number item → name ≡ (rule_of item).name → named ≡ list_any (has_name name) (rules_of new) →
    IsGone (rules_of old) (rules_of new) changes number → IsTrue (not named)
gone_has_no_name old new changes number item name named below is own names gone =
    ap not (names ∙ ap (λ own_name. list_any (has_name own_name) (rules_of new)) own ∙ none)
  where
    none : list_any (has_name (rule_of item).name) (rules_of new) ≡ false
    none = subst (λ (r : NamedRule). list_any (has_name r.name) (rules_of new) ≡ false)
        (same_some gone.former (rule_of item) (sym gone.former_is ∙ rule_there old number item below is)) gone.no_name

-- one old rule more
pub all_so_far : (P : ℕ → Type 0) (n : ℕ) (before now : List ℕ) → ((k : ℕ) → k < n → P k → Contains before k) → (P n → Contains now n) →
    ((k : ℕ) → Contains before k → Contains now k) → (k : ℕ) → k < n + 1 → P k → Contains now k
all_so_far P n before now so_far own others k below is =
    decided k n (λ e. subst (Contains now) (sym e) (own (subst P e is))) (λ other. others k (so_far k (less k other below) is))
  where
    less : (k : ℕ) → k ≢ n → k < n + 1 → k < n
    less k other below = omega arith

pub all_inside : (old : List Rule) (new : List NamedRule) (changes : List RuleChange) (number : ℕ) → IsGone (rules_of old) new changes number → number < length old
all_inside old new changes number gone = is_inside old number gone.former gone.former_is
