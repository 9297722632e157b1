use Rattle.rule_analysis.proofs.AlikeLaws.{own_first}
use Rattle.rule_analysis.proofs.alike.first_of.Goals as goal

pub returns-else-other-rule : goal.returns-else-other-rule
returns-else-other-rule c = own_first c.args.rules.now c.args.rule c.requires

pub returns-in_default : goal.returns-in_default
returns-in_default c = own_first c.args.rules.now c.args.rule c.requires
