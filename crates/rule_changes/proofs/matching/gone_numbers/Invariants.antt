use Rattle.std.proofs.Common.{ℕ, ◌<◌}
use Rattle.std.specs.Prelude.{Contains}
use Rattle.std.specs.List.{AllByRecursion}
use Rattle.lc_model.specs.Rule.{rules_of}
use Rattle.rule_changes.specs.RuleChanges.{IsGone}
use Rattle.rule_changes.proofs.matching.gone_numbers.Given as goal

abbrev pub invariant-loop-number : goal.invariant-loop-number
invariant-loop-number l = record {
  each : AllByRecursion (IsGone (rules_of l.old) (rules_of l.new) l.changes) l.numbers.items;
  all : (number : ℕ) → number < l.number → IsGone (rules_of l.old) (rules_of l.new) l.changes number → Contains l.numbers.items number;
}
