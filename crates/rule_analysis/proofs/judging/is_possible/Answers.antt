use Rattle.lc_model.specs.Condition.{condition_of}
use Rattle.rule_analysis.proofs.StepLaws.{one_is_decided}
use Rattle.rule_analysis.proofs.judging.is_possible.Goals as goal

pub returns-in-None-clause-some : goal.returns-in-None-clause-some
returns-in-None-clause-some c = absurd (one_is_decided (condition_of c.args.cond.now) c.requires (c.in_ok-some.ensures.none c.in-None.is))
