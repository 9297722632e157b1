use Rattle.rule_analysis.proofs.Known.{tables_keep, never_holds_never_fails, never_not_is_always, never_but_is_wherever}
use Rattle.rule_analysis.proofs.laws.numbers_judge_histories.Goals as goal

pub returns-clause-tables : goal.returns-clause-tables
returns-clause-tables c = tables_keep

pub returns-clause-never : goal.returns-clause-never
returns-clause-never c = never_holds_never_fails

pub returns-clause-always : goal.returns-clause-always
returns-clause-always c = never_not_is_always

pub returns-clause-wherever : goal.returns-clause-wherever
returns-clause-wherever c = never_but_is_wherever
