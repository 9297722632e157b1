use Rattle.rule_changes.proofs.RunsLaws.{requests_are_sent}
use Rattle.rule_changes.proofs.laws.requests_are_sent.Goals as goal

pub returns : goal.returns
returns c = requests_are_sent
