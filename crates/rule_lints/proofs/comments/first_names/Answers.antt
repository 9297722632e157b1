use Rattle.rule_lints.specs.Quiet.{names_in}
use Rattle.rule_lints.proofs.Listed.{are_enough}
use Rattle.rule_lints.proofs.comments.first_names.Goals as goal

pub returns : goal.returns
returns c =
    are_enough c.loop-number.names.items (names_in c.loop-number.left.now) (names_in c.args.bytes.now) 16 c.loop-number._number c.loop-number.invariant.0 c.loop-number.invariant.1
    c.loop-number-test.false c.loop-number.auto._number-end
