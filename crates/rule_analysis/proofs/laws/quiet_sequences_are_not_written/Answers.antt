use Rattle.rule_analysis.proofs.CalledLaws.{never_written}
use Rattle.rule_analysis.proofs.laws.quiet_sequences_are_not_written.Goals as goal

pub returns : goal.returns
returns c = never_written
