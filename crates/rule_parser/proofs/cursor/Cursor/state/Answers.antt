use Rattle.lc_model.specs.Text.Class as class
use Rattle.lc_model.specs.Text.Class.{state}
use Rattle.std.proofs.Common.{refl}
use Rattle.rule_lexer.specs.declared.token.TokenKind.TheVariants.{State}
use Rattle.rule_parser.proofs.TokenFronts.{no_value_at_end, no_value, value_taken, is_no_state}
use Rattle.rule_parser.proofs.cursor.Cursor.state.Goals as goal

pub returns-in_err-token : goal.returns-in_err-token
returns-in_err-token c = rw c.from_residual.ensures (no_value_at_end class.State state _ c.in_err-token.ensures)

pub returns-in-State : goal.returns-in-State
returns-in-State c =
    value_taken class.State state _ _ c.in_ok-token.token tt c.in_ok-token.ensures (State c.in-State.mode) c.in-State.mode c.in-State.is refl (λ h. h)

pub returns-in_default : goal.returns-in_default
returns-in_default c =
    no_value class.State state _ _ c.in_ok-token.token tt c.in_ok-token.ensures (is_no_state c.in_ok-token.token.kind c.in_default.not-State)
