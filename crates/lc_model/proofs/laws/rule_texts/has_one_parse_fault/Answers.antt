use Rattle.lc_model.proofs.Texts.OneParse.{one_parse_fault}
use Rattle.lc_model.proofs.laws.rule_texts.has_one_parse_fault.Goals as goal

pub returns : goal.returns
returns c = one_parse_fault
