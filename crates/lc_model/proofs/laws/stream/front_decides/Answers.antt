use Rattle.lc_model.proofs.Host.Streams.{front_decides}
use Rattle.lc_model.proofs.laws.stream.front_decides.Goals as goal

pub returns : goal.returns
returns c = front_decides
