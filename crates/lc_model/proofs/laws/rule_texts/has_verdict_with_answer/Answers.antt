use Rattle.lc_model.proofs.Texts.OneRefusal.{verdict_of_answer}
use Rattle.lc_model.proofs.laws.rule_texts.has_verdict_with_answer.Goals as goal

pub returns : goal.returns
returns c = verdict_of_answer
