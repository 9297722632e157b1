use Rattle.lc_model.specs.Text.Class as class
use Rattle.lc_model.specs.Text.Class.{comparison}
use Rattle.std.proofs.Common.{refl}
use Rattle.rule_lexer.specs.declared.token.TokenKind.TheVariants.{Compare}
use Rattle.rule_parser.proofs.TokenFronts.{no_value_at_end, no_value, value_taken, is_no_comparison}
use Rattle.rule_parser.proofs.cursor.Cursor.comparison.Goals as goal

pub returns-in_err-token : goal.returns-in_err-token
returns-in_err-token c = rw c.from_residual.ensures (no_value_at_end class.Compare comparison _ c.in_err-token.ensures)

pub returns-in-Compare : goal.returns-in-Compare
returns-in-Compare c =
    value_taken class.Compare comparison _ _ c.in_ok-token.token tt c.in_ok-token.ensures (Compare c.in-Compare.op) c.in-Compare.op c.in-Compare.is refl (λ h. h)

pub returns-in_default : goal.returns-in_default
returns-in_default c =
    no_value class.Compare comparison _ _ c.in_ok-token.token tt c.in_ok-token.ensures (is_no_comparison c.in_ok-token.token.kind c.in_default.not-Compare)
