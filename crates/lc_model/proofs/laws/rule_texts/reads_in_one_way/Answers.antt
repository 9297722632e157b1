use Rattle.lc_model.proofs.Texts.OneReading.{one_reading}
use Rattle.lc_model.proofs.laws.rule_texts.reads_in_one_way.Goals as goal

pub returns : goal.returns
returns c = one_reading
