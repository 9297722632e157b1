use Rattle.rule_analysis.proofs.StepLaws.{represented_at}
use Rattle.rule_analysis.proofs.classes.is_represented.Goals as goal

pub returns-then-says_the_same-clause-one : goal.returns-then-says_the_same-clause-one
returns-then-says_the_same-clause-one c = λ e.
    represented_at c.args.terms.now c.args.kept.now c.loop-one.one-index _ c.args.bits c.says_the_same.result c.loop-one-test.true
    c.says_the_same.ensures c.if-says_the_same.true
