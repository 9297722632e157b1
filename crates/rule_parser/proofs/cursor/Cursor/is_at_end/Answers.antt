use Rattle.std.proofs.Common.{◌∙◌, ap}
use Rattle.rule_parser.specs.Front.{is_empty}
use Rattle.rule_parser.proofs.TokenFronts.{all_read}
use Rattle.rule_parser.proofs.cursor.Cursor.is_at_end.Goals as goal

pub returns : goal.returns
returns c = all_read c.self.inside.tokens.now c.self.inside.count ∙ ap is_empty c.self.view_is
