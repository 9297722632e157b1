use Rattle.lc_model.specs.Condition.{condition_of}
use Rattle.rule_analysis.proofs.Judged.{apart_with}
use Rattle.rule_analysis.proofs.samples.are_apart_with.Goals as goal

pub returns-then-has_result : goal.returns-then-has_result
returns-then-has_result c = λ are.
    apart_with c.args.fields.now (condition_of c.args.first.now) (condition_of c.args.second.now) c.args.bits.now
    (c.has_result.ensures c.if-has_result.true) (c.has_result-then-has_result.ensures are)
