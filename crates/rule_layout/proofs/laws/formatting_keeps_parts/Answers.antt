use Rattle.rule_layout.proofs.Texts.{keeps_parts}
use Rattle.rule_layout.proofs.laws.formatting_keeps_parts.Goals as goal

pub returns : goal.returns
returns c = keeps_parts
