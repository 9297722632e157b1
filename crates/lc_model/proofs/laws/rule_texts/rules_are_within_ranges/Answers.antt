use Rattle.lc_model.proofs.Tables.RulesFit.{within_ranges}
use Rattle.lc_model.proofs.laws.rule_texts.rules_are_within_ranges.Goals as goal

pub returns : goal.returns
returns c = within_ranges
