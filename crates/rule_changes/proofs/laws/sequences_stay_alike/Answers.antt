use Rattle.rule_changes.proofs.RunsLaws.{sequences_stay_alike}
use Rattle.rule_changes.proofs.laws.sequences_stay_alike.Goals as goal

pub returns : goal.returns
returns c = sequences_stay_alike
