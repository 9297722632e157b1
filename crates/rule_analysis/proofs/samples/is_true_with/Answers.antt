use Rattle.lc_model.specs.Condition.{condition_of}
use Rattle.rule_analysis.proofs.Judged.{some_of}
use Rattle.rule_analysis.proofs.samples.is_true_with.Goals as goal

pub returns : goal.returns
returns c = λ is. some_of c.args.fields.now (condition_of c.args.cond.now) c.args.bits.now (c.has_result.ensures is)
