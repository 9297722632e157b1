use Rattle.rule_analysis.proofs.QuietLaws.{quiet_rules_stay_quiet}
use Rattle.rule_analysis.proofs.laws.quiet_rules_stay_quiet.Goals as goal

pub returns : goal.returns
returns c = quiet_rules_stay_quiet
