use Rattle.lc_model.proofs.Texts.OneSplit.{one_split}
use Rattle.lc_model.proofs.laws.rule_texts.splits_in_one_way.Goals as goal

pub returns : goal.returns
returns c = one_split
