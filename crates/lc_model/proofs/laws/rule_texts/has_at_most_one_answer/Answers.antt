use Rattle.lc_model.proofs.Texts.OneRefusal.{at_most_one_answer}
use Rattle.lc_model.proofs.laws.rule_texts.has_at_most_one_answer.Goals as goal

pub returns : goal.returns
returns c = at_most_one_answer
