use Rattle.std.proofs.Common.{refl}
use Rattle.rule_lexer.proofs.Judged.{unclosed}
use Rattle.rule_lexer.proofs.lexeme.string.Goals as goal

pub returns-in-None : goal.returns-in-None
returns-in-None c = (refl, unclosed c.args.rest.now c.requires c.in-None.ensures)
