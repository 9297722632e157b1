use Rattle.std.proofs.Common.{◌∙◌}
use Rattle.lc_model.specs.Condition.{condition_of}
use Rattle.rule_changes.proofs.Settled.{terms_are_few}
use Rattle.rule_changes.proofs.settling.chance.Goals as goal

pub chance_over-requires-clause-few : goal.chance_over-requires-clause-few
chance_over-requires-clause-few c =
    terms_are_few (condition_of c.args.first.now) (condition_of c.args.second.now) c.as_slice-terms.result.now c.size_of.result c.size_of-2.result
    (c.as_slice-terms.ensures.value ∙ c.in_ok-terms.ensures) c.size_of.ensures c.size_of-2.ensures c.if-size_of-gt-MOST_COMPARISONS.false
