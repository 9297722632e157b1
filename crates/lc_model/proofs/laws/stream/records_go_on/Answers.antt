use Rattle.lc_model.proofs.Host.StreamsGoOn.{records_go_on}
use Rattle.lc_model.proofs.laws.stream.records_go_on.Goals as goal

pub returns : goal.returns
returns c = records_go_on
