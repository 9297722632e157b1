use Rattle.std.proofs.Common.{◌≡◌}
use Rattle.std.specs.List.{AllByRecursion}
use Rattle.run_account.specs.Counts.{none_counted}
use Rattle.run_account.specs.declared.counts.RuleRow.{RuleRow}
use Rattle.run_account.proofs.texts.push_rows.Given as goal

abbrev pub invariant-loop-rule : goal.invariant-loop-rule
invariant-loop-rule l = AllByRecursion (λ (row : RuleRow). row.counts ≡ none_counted) l.fn.rows.items → AllByRecursion (λ (row : RuleRow). row.counts ≡ none_counted) l.rows.items
