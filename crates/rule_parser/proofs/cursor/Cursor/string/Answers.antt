use Rattle.lc_model.specs.Text.Class as class
use Rattle.rule_parser.proofs.TokenFronts.{has_quotes, token_takes}
use Rattle.rule_parser.proofs.cursor.Cursor.string.Goals as goal

pub inner-requires : goal.inner-requires
inner-requires c = has_quotes c.in_ok-text.field-0.text.now (token_takes class.Text _ _ _ c.in_ok-text.ensures).1
