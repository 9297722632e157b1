use Rattle.lc_model.proofs.Host.RunsKept.{carried_by_the_stream, runs_tell_failures, runs_follow_texts, runs_write_what_is_called_for, runs_write_what_bytes_call_for, runs_write_with_fixed_tables}
use Rattle.lc_model.proofs.laws.runs.runs_write_what_is_called_for.Goals as goal

pub returns-clause-failures : goal.returns-clause-failures
returns-clause-failures c = runs_tell_failures

pub returns-clause-follow : goal.returns-clause-follow
returns-clause-follow c = runs_follow_texts

pub returns-clause-carried : goal.returns-clause-carried
returns-clause-carried c = carried_by_the_stream

pub returns-clause-texts : goal.returns-clause-texts
returns-clause-texts c = runs_write_what_is_called_for

pub returns-clause-bytes : goal.returns-clause-bytes
returns-clause-bytes c = runs_write_what_bytes_call_for

pub returns-clause-fixed : goal.returns-clause-fixed
returns-clause-fixed c = runs_write_with_fixed_tables
