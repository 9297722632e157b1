use Rattle.lc_model.specs.Text.Class as class
use Rattle.lc_model.specs.Text.Class.{event_kind}
use Rattle.std.proofs.Common.{refl}
use Rattle.rule_lexer.specs.declared.token.TokenKind.TheVariants.{Level}
use Rattle.rule_parser.proofs.TokenFronts.{no_value_at_end, no_value, value_taken, is_no_level}
use Rattle.rule_parser.proofs.cursor.Cursor.level.Goals as goal

pub returns-in_err-token : goal.returns-in_err-token
returns-in_err-token c = rw c.from_residual.ensures (no_value_at_end class.Level event_kind _ c.in_err-token.ensures)

pub returns-in-Level : goal.returns-in-Level
returns-in-Level c =
    value_taken class.Level event_kind _ _ c.in_ok-token.token tt c.in_ok-token.ensures (Level c.in-Level.kind) c.in-Level.kind c.in-Level.is refl (λ h. h)

pub returns-in_default : goal.returns-in_default
returns-in_default c =
    no_value class.Level event_kind _ _ c.in_ok-token.token tt c.in_ok-token.ensures (is_no_level c.in_ok-token.token.kind c.in_default.not-Level)
