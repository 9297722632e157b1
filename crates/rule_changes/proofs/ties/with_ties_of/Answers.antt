use Rattle.std.specs.Prelude.{Contains}
use Rattle.rule_changes.proofs.Tied.{one_at}
use Rattle.rule_changes.proofs.ties.with_ties_of.Goals as goal

pub tie_if-requires-clause-other : goal.tie_if-requires-clause-other
tie_if-requires-clause-other c = one_at (Contains c.args.terms.now) c.args.others.now c.loop-other.other-index _ c.requires.others c.loop-other-test.true
