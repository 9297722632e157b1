use Rattle.lc_model.proofs.Texts.HasMeaning.{has_meaning}
use Rattle.lc_model.proofs.laws.rule_texts.means_or_fails.Goals as goal

pub returns : goal.returns
returns c = has_meaning
