use Rattle.rule_changes.proofs.RunsLaws.{sequences_come_no_sooner}
use Rattle.rule_changes.proofs.laws.sequences_come_no_sooner.Goals as goal

pub returns : goal.returns
returns c = sequences_come_no_sooner
