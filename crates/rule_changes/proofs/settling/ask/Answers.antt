use Rattle.std.proofs.Common.{arith}
use Rattle.lc_model.specs.Condition.{condition_of}
use Rattle.rule_changes.specs.ConditionChanges.{least_steps}
use Rattle.rule_changes.proofs.Settled.{with_fewer}
use Rattle.rule_changes.proofs.settling.ask.Goals as goal

pub returns : goal.returns
returns c =
    with_fewer (condition_of c.args.question.now) c.in_ok-decision.decision c.max-given.result least_steps (omega (arith, c.max-given.ensures)) c.in_ok-decision.ensures
