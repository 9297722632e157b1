use Rattle.std.proofs.Common.{◌≡◌, Some}
use Rattle.lc_model.specs.Text.Reading.{IsUnreadable}
use Rattle.lc_model.specs.Tables.Compiling.{IsRefused, unreadable, beyond_limits, limit_refusal}
use Rattle.lc_model.specs.Tables.InForce.{limits}
use Rattle.lc_model.proofs.Exits.{passed_on}
use Rattle.rpn_compiler.specs.Fault.{Refuses}
use Rattle.rpn_compiler.proofs.Refused.{also, text_reads}
use Rattle.rpn_compiler.proofs.rule_text.RuleText.read_valid.Goals as goal

pub returns-in_err-it-clause-refused : goal.returns-in_err-it-clause-refused
returns-in_err-it-clause-refused c =
    passed_on (Refuses (IsRefused limits c.args.text.now)) _ _ c.from_residual.ensures.1
    (also (IsUnreadable c.args.text.now) (IsRefused limits c.args.text.now) (λ r is. unreadable is) c.in_err-it.field-0.0 c.in_err-it.ensures.refused)

pub returns-in_err-check_limits-clause-refused : goal.returns-in_err-check_limits-clause-refused
returns-in_err-check_limits-clause-refused c =
    passed_on (Refuses (IsRefused limits c.args.text.now)) _ _ c.from_residual-in_err-check_limits.ensures.1
    (also (λ refusal. limit_refusal limits c.in_ok-it.it.rules.rules ≡ Some refusal) (IsRefused limits c.args.text.now)
    (λ r is. beyond_limits (text_reads c.in_ok-it.it c.args.text.now c.in_ok-it.ensures.bytes c.in_ok-it.ensures.reads) is)
    c.in_err-check_limits.field-0.0 c.in_err-check_limits.ensures.refused)
