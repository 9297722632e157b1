use Rattle.std.proofs.Common.{sym, subst}
use Rattle.rule_errors.specs.Places.{IsRule}
use Rattle.rule_errors.proofs.Reasons.{of_rule}
use Rattle.rule_errors.proofs.tables.length_message.Goals as goal

pub returns : goal.returns
returns c =
    of_rule c.args.text.now.bytes.now c.args.rule c.name_mark.result.at c.with.result
    (subst (IsRule c.args.text.now.bytes.now c.args.rule) (sym c.name_mark.ensures) c.in_ok-name.ensures)
    (c.with.ensures.error 42 c.name_mark.result.at c.at.ensures)
