use Rattle.std.proofs.Common.{◌≡◌}
use Rattle.std.specs.List.{AllByRecursion}
use Rattle.run_account.specs.Counts.{none_counted}
use Rattle.run_account.specs.declared.counts.RuleRow.{RuleRow}
use Rattle.run_account.proofs.texts.rows_of.Given as goal

abbrev pub invariant-loop-text : goal.invariant-loop-text
invariant-loop-text l = AllByRecursion (λ (row : RuleRow). row.counts ≡ none_counted) l.rows.items
