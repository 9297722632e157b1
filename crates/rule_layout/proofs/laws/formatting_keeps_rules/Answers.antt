use Rattle.rule_layout.proofs.Rules.{keeps_rules}
use Rattle.rule_layout.proofs.laws.formatting_keeps_rules.Goals as goal

pub returns : goal.returns
returns c = keeps_rules
