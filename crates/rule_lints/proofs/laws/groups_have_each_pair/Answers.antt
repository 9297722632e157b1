use Rattle.rule_lints.proofs.Grouping.{each_is_grouped, grouped_are_alike, grouped_once}
use Rattle.rule_lints.proofs.laws.groups_have_each_pair.Goals as goal

pub returns-clause-each : goal.returns-clause-each
returns-clause-each c = each_is_grouped

pub returns-clause-no_other : goal.returns-clause-no_other
returns-clause-no_other c = grouped_are_alike

pub returns-clause-once : goal.returns-clause-once
returns-clause-once c = grouped_once
