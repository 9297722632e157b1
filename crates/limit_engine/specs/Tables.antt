-- The invariants of the engine's tables.
use Rattle.std.specs.Prelude.{◌≡◌, ℕ, ◌*◌, ◌≤◌, List, length, map, All}
use Rattle.lc_model.specs.declared.field.Term.{Term}
use Rattle.lc_model.specs.declared.mode.LcMode.{LcMode}
use Rattle.lc_model.specs.Codes.{table_entries}
use Rattle.lc_model.specs.LimitChecker.Steps.{Point}
use Rattle.lc_model.specs.Kept.Summary.{WatchResult, Tally, LcOwn}
use Rattle.lc_model.specs.Tables.Image.{WideActionpoints, words_in}
use Rattle.limit_engine.specs.declared.actionpoint.RuleEntry.{RuleEntry}
use Rattle.limit_engine.specs.Entry.{rule_in, IsRunnable}
use Rattle.lc_model.specs.declared.command.SampleRequest.{SampleRequest}
use Rattle.limit_engine.specs.Plan.{AreEvaluated, IsPlanned, Planned}
use Rattle.limit_engine.specs.Running.{truths_of}
use Rattle.limit_engine.specs.Shared.{AreShared}

-- The engine as the model's object of a Limit Checker.
abbrev pub own_of : LcMode → List Term → List WatchResult → List RuleEntry → List (Point Tally) → List ℕ → (steps probes : ℕ) → LcOwn
own_of mode terms watch entries points words steps probes = record {
  mode = mode;
  terms = terms;
  rules = map (rule_in terms words) entries;
  watch = watch;
  points = points;
  effort = record { steps = steps; probes = probes };
}

-- Each watchpoint has a result, and each entry an actionpoint; equal watchpoints have equal results, and the words of each
-- entry are a sound equation.
pub record AreTables (terms : List Term) (watch : List WatchResult) (entries : List RuleEntry) (points : List (Point Tally)) (words : List ℕ) : Type 0 where
  pub few : length terms ≤ table_entries
  pub few_rules : length entries ≤ table_entries
  pub found : length watch ≡ length terms
  pub counted : length points ≡ length entries
  pub shared : AreShared terms watch
  pub runnable : All (IsRunnable terms words) entries

-- The tables are consistent, and the plan has the truth of each rule that the request samples.
pub record AreFound (request : SampleRequest) (terms : List Term) (watch : List WatchResult) (entries : List RuleEntry) (points : List (Point Tally)) (words : List ℕ) (plan : Planned) : Type 0 where
  pub tables : AreTables terms watch entries points words
  pub planned : IsPlanned (length terms) words entries plan.steps plan.roots
  pub evaluated : AreEvaluated request (truths_of watch) words entries plan.roots plan.places

-- The most words that a sample evaluates: 32 for each of 176 rules.
abbrev pub most_steps : ℕ
most_steps = 5632

-- The most message ids with which a packet's id is compared.
abbrev pub most_probes : ℕ
most_probes = 8

-- The words evaluated and the message ids compared are within these bounds.
pub record IsFewEffort (steps probes : ℕ) : Type 0 where
  pub few_steps : steps ≤ most_steps
  pub few_probes : probes ≤ most_probes

-- The lists have the room for the largest tables that they were made with.
pub record HasRoom (watch entries points words : ℕ) : Type 0 where
  pub for_watch : watch ≡ table_entries
  pub for_entries : entries ≡ table_entries
  pub for_points : points ≡ table_entries
  pub for_words : words ≡ words_in WideActionpoints * table_entries
