use Rattle.rule_changes.proofs.RunsLaws.{alike_texts_request_alike}
use Rattle.rule_changes.proofs.laws.alike_texts_request_alike.Goals as goal

pub returns : goal.returns
returns c = alike_texts_request_alike
