use Rattle.lc_model.proofs.Texts.HasAnswers.{has_answer}
use Rattle.lc_model.proofs.laws.rule_texts.has_answer_where_tokens_do.Goals as goal

pub returns : goal.returns
returns c = has_answer
