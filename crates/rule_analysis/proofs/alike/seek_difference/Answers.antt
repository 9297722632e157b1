use Rattle.std.proofs.Common.{rules}
use Rattle.lc_model.specs.Condition.{condition_of}
use Rattle.rule_analysis.proofs.AlikeLaws.{never_differ_alike}
use Rattle.rule_analysis.proofs.alike.seek_difference.Goals as goal

pub returns-clause-none : goal.returns-clause-none
returns-clause-none c = λ is. never_differ_alike (condition_of c.args.first.now) (condition_of c.args.second.now) (search rules)
