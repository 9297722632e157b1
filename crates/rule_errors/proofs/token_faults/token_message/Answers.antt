use Rattle.std.proofs.Common.{IfOk, subst}
use Rattle.rule_errors.specs.Telling.{TellsReason, place_of}
use Rattle.rule_errors.proofs.Reasons.{tells}
use Rattle.rule_errors.proofs.token_faults.token_message.Goals as goal

pub returns : goal.returns
returns c =
    tells c.args.text.now c.args.error c.describe_fault.result
    (subst (λ reason. IfOk c.describe_fault.result (TellsReason c.args.text.now reason (place_of c.args.error))) c.reason.ensures
    (subst (λ at. IfOk c.describe_fault.result (TellsReason c.args.text.now c.reason.result at)) c.place.ensures c.describe_fault.ensures))
