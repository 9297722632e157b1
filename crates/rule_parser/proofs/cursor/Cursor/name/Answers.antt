use Rattle.std.proofs.Common.{ap, true, false}
use Rattle.lc_model.specs.Text.Class as class
use Rattle.rule_lexer.specs.Fitting.{kind_fits}
use Rattle.rule_parser.proofs.TokenFronts.{is_no_name, nothing_at, taken_at}
use Rattle.rule_parser.proofs.cursor.Cursor.name.Goals as goal

pub returns-in_err-token : goal.returns-in_err-token
returns-in_err-token c = rw c.from_residual.ensures (nothing_at class.Name _ c.in_err-token.ensures)

pub returns-in-Name : goal.returns-in-Name
returns-in-Name c = taken_at class.Name _ _ c.in_ok-token.token tt c.in_ok-token.ensures true (ap (kind_fits class.Name) c.in-Name.is)

pub returns-in_default : goal.returns-in_default
returns-in_default c = taken_at class.Name _ _ c.in_ok-token.token tt c.in_ok-token.ensures false (is_no_name c.in_ok-token.token.kind c.in_default.not-Name)
