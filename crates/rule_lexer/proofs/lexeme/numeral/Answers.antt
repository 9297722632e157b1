use Rattle.std.proofs.Common.{refl, sym}
use Rattle.rule_lexer.proofs.Judged.{bad_numeral}
use Rattle.rule_lexer.proofs.lexeme.numeral.Goals as goal

pub returns-in-None : goal.returns-in-None
returns-in-None c =
    (refl, bad_numeral c.args.rest.now c.numeral_length-length.result c.numeral_length-length.ensures (sym c.in-None.ensures))
