use Rattle.std.proofs.Common.{sym, subst}
use Rattle.lc_model.specs.Text.Token.{is_word}
use Rattle.rule_lexer.specs.Front.{IsFront}
use Rattle.rule_lexer.proofs.Words.{word_front}
use Rattle.rule_lexer.proofs.word.word_length.Goals as goal

pub returns : goal.returns
returns c = subst (IsFront is_word c.args.rest.now) (sym c.run_length.ensures) (word_front c.args.rest.now c.requires)
