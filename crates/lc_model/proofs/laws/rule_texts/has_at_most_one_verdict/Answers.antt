use Rattle.lc_model.proofs.Texts.OneRefusal.{at_most_one_verdict}
use Rattle.lc_model.proofs.laws.rule_texts.has_at_most_one_verdict.Goals as goal

pub returns : goal.returns
returns c = at_most_one_verdict
