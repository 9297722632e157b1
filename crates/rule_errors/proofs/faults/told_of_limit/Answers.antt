use Rattle.rpn_compiler.specs.Fault.{refusal_of}
use Rattle.rule_errors.proofs.Reasons.{told_first}
use Rattle.rule_errors.proofs.faults.told_of_limit.Goals as goal

pub returns : goal.returns
returns c =
    told_first c.args.text.now.bytes.now (refusal_of c.args.first) c.in_ok-message.message c.in_ok-told.told.items c.add_beside_limit.new.told.items
    c.in_ok-message.ensures c.in_ok-told.ensures c.in_ok-add_beside_limit.ensures
