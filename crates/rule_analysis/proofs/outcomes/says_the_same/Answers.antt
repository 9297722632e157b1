use Rattle.rule_analysis.proofs.StepLaws.{alike_equal}
use Rattle.rule_analysis.proofs.outcomes.says_the_same.Goals as goal

pub returns-then-one-other : goal.returns-then-one-other
returns-then-one-other c = alike_equal c.args.terms.now c.args.one c.args.other c.if-one-other.true
