-- The stored entries of the ADT.
use Rattle.std.specs.Prelude.{◌≡◌, ℕ, ◌+◌, ◌≤◌, List, length, slice_range, option_map, Some, unwrap_or, pos}
use Rattle.lc_model.specs.declared.field.Term.{Term}
use Rattle.lc_model.specs.declared.field.FieldType.TheVariants.{U8}
use Rattle.lc_model.specs.declared.field.CmpOp.TheVariants.{Less}
use Rattle.lc_model.specs.declared.truth.Truth.{Truth}
use Rattle.lc_model.specs.Condition.{Condition, Watch}
use Rattle.lc_model.specs.LimitChecker.Watch.{truth_by}
use Rattle.lc_model.specs.Kept.Summary.{WatchResult}
use Rattle.lc_model.specs.Kept.Next.{truth_in}
use Rattle.lc_model.specs.Rule.{Actionpoint}
use Rattle.lc_model.specs.Tables.Spelled.{spelled_condition}
use Rattle.table_validator.specs.Sound.{IsSoundEquation}
use Rattle.limit_engine.specs.declared.actionpoint.RuleEntry.{RuleEntry}

-- The rule of an entry with this condition.
abbrev pub rule_with : RuleEntry → Condition → Actionpoint
rule_with entry condition = record {
  mode = entry.mode;
  fails = entry.fails;
  sequence = entry.sequence;
  event_kind = entry.event_kind;
  event_id = entry.event_id;
  text = entry.text.items;
  report = entry.report;
  condition = condition;
}

-- The entry's words before EQUAL.
abbrev pub words_of : List ℕ → RuleEntry → List ℕ
words_of words entry = slice_range words entry.start entry.end

-- A placeholder for words that spell no condition, which the tables in force do not have.
abbrev pub no_condition : Condition
no_condition = Watch (record { kind = U8; mid = 0; offset = 0; mask = 0; stale = 0; op = Less; value = pos 0 })

-- The condition that the entry's words spell over these watchpoints.
abbrev pub condition_in : List Term → List ℕ → RuleEntry → Condition
condition_in terms words entry = unwrap_or (spelled_condition terms (words_of words entry)) no_condition

-- The rule of an entry with the condition that its words spell.
abbrev pub rule_in : List Term → List ℕ → RuleEntry → Actionpoint
rule_in terms words entry = rule_with entry (condition_in terms words entry)

-- The condition that the entry's words spell has this truth, by the watchpoints' results.
abbrev pub HasTruth : List Term → List ℕ → List WatchResult → RuleEntry → Truth → Type 0
HasTruth terms words watch entry truth = option_map (truth_by (truth_in terms watch)) (spelled_condition terms (words_of words entry)) ≡ Some truth

-- The entry's words lie within the list of words, are at most 31, and are a sound equation.
pub record IsRunnable (terms : List Term) (words : List ℕ) (entry : RuleEntry) : Type 0 where
  pub from : entry.start ≤ entry.end
  pub to : entry.end ≤ length words
  pub short : entry.end ≤ entry.start + 31
  pub sound : IsSoundEquation (length terms) (words_of words entry)
