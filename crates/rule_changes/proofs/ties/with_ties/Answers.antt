use Rattle.std.proofs.Common.{rules}
use Rattle.std.specs.Prelude.{Contains}
use Rattle.rule_changes.proofs.Tied.{one_at}
use Rattle.rule_changes.proofs.ties.with_ties.Goals as goal

pub with_ties_of-requires-clause-term : goal.with_ties_of-requires-clause-term
with_ties_of-requires-clause-term c =
    one_at (Contains c.args.terms.now) c.as_slice-firsts.result.now c.loop-term.term-index _ (search rules) c.loop-term-test.true
