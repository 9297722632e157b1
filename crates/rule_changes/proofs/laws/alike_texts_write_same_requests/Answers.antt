use Rattle.rule_changes.proofs.RunsLaws.{alike_texts_write_same_requests}
use Rattle.rule_changes.proofs.laws.alike_texts_write_same_requests.Goals as goal

pub returns : goal.returns
returns c = alike_texts_write_same_requests
