use Rattle.lc_model.proofs.Host.StreamsGoOn.{all_fronts_stay}
use Rattle.lc_model.proofs.laws.stream.fronts_stay.Goals as goal

pub returns : goal.returns
returns c = all_fronts_stay
