use Rattle.lc_model.proofs.Texts.HasAnswers.{has_answer}
use Rattle.lc_model.proofs.Texts.OneRefusal.{at_most_one_answer}
use Rattle.rule_parser.proofs.FirstFault.{parses_or_fails}
use Rattle.rule_parser.proofs.laws.text_has_one_answer.Goals as goal

pub returns : goal.returns
returns c = λ text. record {
  some = has_answer parses_or_fails text;
  at_most_one = at_most_one_answer text;
}
