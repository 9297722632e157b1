use Rattle.rule_changes.proofs.Matched.{number_is}
use Rattle.rule_changes.proofs.matching.number_of.Goals as goal

pub returns-then-has_name-clause-some : goal.returns-then-has_name-clause-some
returns-then-has_name-clause-some c =
    number_is c.args.rules.now c.args.name.now c.loop-number.number c.index-rules-number.result c.has_name.result c.loop-number-test.true
    c.index-rules-number.is c.has_name.ensures c.if-has_name.true
