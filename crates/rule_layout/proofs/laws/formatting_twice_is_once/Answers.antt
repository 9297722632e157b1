use Rattle.rule_layout.proofs.Twice.{formats_once}
use Rattle.rule_layout.proofs.laws.formatting_twice_is_once.Goals as goal

pub returns : goal.returns
returns c = formats_once
