-- What changed from one rule text to another. This project's own.
use Rattle.std.specs.Prelude.{◌≡◌, ◌≢◌, ℕ, ◌+◌, Bool, false, ◌&&◌, ◌==◌, not, nat_le, bytes_eq, List, flat_map, slice_get, Option, Some, None, Contains, IsTrue, IsFalse}
use Rattle.std.specs.List.{AllByRecursion, list_any}
use Rattle.lc_model.specs.declared.field.Term.{Term}
use Rattle.lc_model.specs.Field.{width}
use Rattle.lc_model.specs.Condition.{Condition}
use Rattle.lc_model.specs.Rule.{Actionpoint, NamedRule}
use Rattle.lc_model.specs.Tables.Equation.{mentions}
use Rattle.lc_model.specs.Laws.Lagging.{IsTrueOnlyWhere}
use Rattle.rule_changes.specs.declared.rule_change.ChangedParts.{ChangedParts}
use Rattle.rule_changes.specs.declared.rule_change.RuleChange.{RuleChange}
use Rattle.rule_changes.specs.declared.rule_change.RuleChange.TheVariants.{Kept, Renamed, New}
use Rattle.rule_changes.specs.declared.condition_change.ConditionChange.{ConditionChange}
use Rattle.rule_changes.specs.ConditionChanges.{IsConditionChange}

-- ---- ends of fields

-- The comparisons of rules, in the order of the text.
abbrev pub mentions_of : List NamedRule → List Term
mentions_of rules = flat_map (λ (rule : NamedRule). mentions rule.action.condition) rules

-- The second term reads the same packets, and its field ends no sooner.
abbrev pub reaches : Term → Term → Bool
reaches t u = (u.mid == t.mid) && nat_le (t.offset + width t.kind) (u.offset + width u.kind)

-- ---- rules

-- The rule has this name.
abbrev pub has_name : List ℕ → NamedRule → Bool
has_name name rule = bytes_eq rule.name name

-- The rule with this number has this name.
abbrev pub IsNumberOf : List NamedRule → List ℕ → ℕ → Type 0
IsNumberOf rules name number = (rule : NamedRule) × (slice_get rules number ≡ Some rule) × IsTrue (has_name name rule)

-- The value stayed, or it changed from the old to the new one.
abbrev pub IsValueChange : {A : Type 0} → A → A → Option (A × A) → Type 0
IsValueChange old new None = old ≡ new
IsValueChange old new (Some both) = (both.0 ≡ old) × (both.1 ≡ new) × (old ≢ new)

-- The parts of a rule that changed, apart from its condition.
pub record ArePartsOf (old new : Actionpoint) (parts : ChangedParts) : Type 0 where
  pub mode : IsValueChange old.mode new.mode parts.mode
  pub fails : IsValueChange old.fails new.fails parts.fails
  pub sequence : IsValueChange old.sequence new.sequence parts.sequence
  pub event_kind : IsValueChange old.event_kind new.event_kind parts.event_kind
  pub event_id : IsValueChange old.event_id new.event_id parts.event_id
  pub text : parts.is_text ≡ not (bytes_eq old.text new.text)
  pub report : IsValueChange old.report new.report parts.report

-- Both conditions are true after the same histories.
abbrev pub FailAlike : Condition → Condition → Type 0
FailAlike old new = IsTrueOnlyWhere old new × IsTrueOnlyWhere new old

-- Both have the same parts, and conditions that are true after the same histories.
pub record IsRenamed (old new : Actionpoint) : Type 0 where
  pub parts : new ≡ record old { condition = new.condition }
  pub alike : FailAlike old.condition new.condition

-- The old rule with this number is the new rule, with another name.
abbrev pub IsFormer : List NamedRule → NamedRule → ℕ → Type 0
IsFormer old rule number = (former : NamedRule) × (slice_get old number ≡ Some former) × IsRenamed former.action rule.action

-- The old rule with this number has the name of the new rule, and these parts of it changed, and this is how the conditions are related.
pub record IsKept (old : List NamedRule) (rule : NamedRule) (number : ℕ) (parts : ChangedParts) (condition : ConditionChange) : Type 0 where
  pub former : NamedRule
  pub former_is : slice_get old number ≡ Some former
  pub name : IsTrue (has_name rule.name former)
  pub parts_are : ArePartsOf former.action rule.action parts
  pub condition_is : IsConditionChange former.action.condition rule.action.condition condition

-- How a new rule came about.
abbrev pub IsChangeOf : List NamedRule → NamedRule → RuleChange → Type 0
IsChangeOf old rule (Kept number parts condition) = IsKept old rule number parts condition
IsChangeOf old rule (Renamed number) = IsFormer old rule number
IsChangeOf old rule New = IsFalse (list_any (has_name rule.name) old)

-- The change is about the old rule with this number.
abbrev pub is_of : ℕ → RuleChange → Bool
is_of number (Kept old parts condition) = old == number
is_of number (Renamed old) = old == number
is_of number New = false

-- The old rule with this number is gone: none of the changes is about it, and no new rule has its name.
pub record IsGone (old new : List NamedRule) (changes : List RuleChange) (number : ℕ) : Type 0 where
  pub former : NamedRule
  pub former_is : slice_get old number ≡ Some former
  pub unlisted : IsFalse (list_any (is_of number) changes)
  pub no_name : IsFalse (list_any (has_name former.name) new)

-- These are the numbers of all old rules that are gone.
pub record AreGone (old new : List NamedRule) (changes : List RuleChange) (numbers : List ℕ) : Type 0 where
  pub each : AllByRecursion (IsGone old new changes) numbers
  pub all : (number : ℕ) → IsGone old new changes number → Contains numbers number
