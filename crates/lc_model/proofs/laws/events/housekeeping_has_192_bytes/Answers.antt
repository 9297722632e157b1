use Rattle.lc_model.proofs.Events.SendLaws.{housekeeping_has_192_bytes}
use Rattle.lc_model.proofs.laws.events.housekeeping_has_192_bytes.Goals as goal

pub returns : goal.returns
returns c = housekeeping_has_192_bytes
