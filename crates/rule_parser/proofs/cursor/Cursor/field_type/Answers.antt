use Rattle.lc_model.specs.Text.Class as class
use Rattle.lc_model.specs.Text.Class.{field_type}
use Rattle.std.proofs.Common.{refl}
use Rattle.rule_lexer.specs.declared.token.TokenKind.TheVariants.{FieldKind}
use Rattle.rule_parser.proofs.TokenFronts.{no_value_at_end, no_value, value_taken, is_no_type}
use Rattle.rule_parser.proofs.cursor.Cursor.field_type.Goals as goal

pub returns-in_err-token : goal.returns-in_err-token
returns-in_err-token c = rw c.from_residual.ensures (no_value_at_end class.FieldKind field_type _ c.in_err-token.ensures)

pub returns-in-FieldKind : goal.returns-in-FieldKind
returns-in-FieldKind c =
    value_taken class.FieldKind field_type _ _ c.in_ok-token.token tt c.in_ok-token.ensures (FieldKind c.in-FieldKind.kind) c.in-FieldKind.kind c.in-FieldKind.is refl (λ h. h)

pub returns-in_default : goal.returns-in_default
returns-in_default c =
    no_value class.FieldKind field_type _ _ c.in_ok-token.token tt c.in_ok-token.ensures (is_no_type c.in_ok-token.token.kind c.in_default.not-FieldKind)
