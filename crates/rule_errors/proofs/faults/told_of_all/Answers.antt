use Rattle.std.proofs.Common.{subst}
use Rattle.rpn_compiler.specs.Fault.{refusal_of}
use Rattle.rule_errors.specs.Telling.{TellsOf}
use Rattle.rule_errors.proofs.Reasons.{told_alone}
use Rattle.rule_errors.proofs.faults.told_of_all.Goals as goal

pub returns : goal.returns
returns c =
    told_alone c.args.text.now (refusal_of c.args.first) c.in_ok-message.message c.alone.result
    (subst (λ text. TellsOf text (refusal_of c.args.first) c.in_ok-message.message) c.in_ok-source.ensures c.in_ok-message.ensures)
    c.alone.ensures
