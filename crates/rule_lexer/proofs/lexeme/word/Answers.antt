use Rattle.std.proofs.Common.{refl}
use Rattle.rule_lexer.proofs.Judged.{long_word}
use Rattle.rule_lexer.proofs.lexeme.word.Goals as goal

pub returns-then-length-gt-LONGEST_NAME : goal.returns-then-length-gt-LONGEST_NAME
returns-then-length-gt-LONGEST_NAME c =
    (refl, long_word c.args.rest.now c.word_length-length.result c.word_length-length.ensures c.if-length-gt-LONGEST_NAME.true)
