use Rattle.rule_analysis.proofs.CalledLaws.{never_called_for}
use Rattle.rule_analysis.proofs.laws.quiet_sequences_are_not_called_for.Goals as goal

pub returns : goal.returns
returns c = never_called_for
