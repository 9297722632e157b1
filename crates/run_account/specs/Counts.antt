-- How often each rule was sampled, and with which results. This project's own.
use Rattle.std.specs.Prelude.{ℕ, ◌==◌, List, Option, Some, None, if◌then◌else◌}
use Rattle.lc_model.specs.declared.mode.ApResult.{ApResult}
use Rattle.lc_model.specs.declared.mode.ApResult.TheVariants.{Pass, Fail, Stale, Error}
use Rattle.lc_model.specs.declared.command.SampleRequest.{SampleRequest}
use Rattle.lc_model.specs.Kept.Summary.{LcOwn}
use Rattle.run_account.specs.Clock.{add}
use Rattle.run_account.specs.Samples.{result_of}
use Rattle.run_account.specs.declared.counts.RuleCounts.{RuleCounts}
use Rattle.run_account.specs.declared.counts.RuleRow.{RuleRow}

abbrev pub none_counted : RuleCounts
none_counted = record { passed = 0; failed = 0; stale = 0; errors = 0 }

-- the counts with this number more of a result
abbrev pub counts_with : ℕ → ApResult → RuleCounts → RuleCounts
counts_with n Pass counts = record counts { passed = add counts.passed n }
counts_with n Fail counts = record counts { failed = add counts.failed n }
counts_with n Stale counts = record counts { stale = add counts.stale n }
counts_with n Error counts = record counts { errors = add counts.errors n }

-- a rule's row after this number of samples with this result, under tables of the text with this number
abbrev pub row_with : ℕ → Option ℕ → Option ApResult → RuleRow → RuleRow
row_with n None found row = row
row_with n (Some text) None row = row
row_with n (Some text) (Some found) row = if text == row.text then record row { counts = counts_with n found row.counts } else row

-- a rule's row after a record with these requests, in the Limit Checker after them, with tables of the text with this number
abbrev pub row_sampled : List SampleRequest → Option LcOwn → Option ℕ → RuleRow → RuleRow
row_sampled requests checker force row = row_with 1 force (result_of requests checker row.rule) row
