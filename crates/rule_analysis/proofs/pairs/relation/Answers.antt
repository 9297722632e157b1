use Rattle.lc_model.specs.Condition.{condition_of}
use Rattle.rule_analysis.proofs.AlikeLaws.{alike_is_same}
use Rattle.rule_analysis.proofs.pairs.relation.Goals as goal

pub returns-then-found-clause-related : goal.returns-then-found-clause-related
returns-then-found-clause-related c =
    alike_is_same (condition_of c.args.first.now) (condition_of c.args.second.now) (c.in_ok-found.ensures.none c.if-found.true)
