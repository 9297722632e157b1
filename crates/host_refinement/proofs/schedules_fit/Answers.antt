use Rattle.host_refinement.proofs.Schedules.{schedules_fit}
use Rattle.host_refinement.proofs.schedules_fit.Goals as goal

pub returns : goal.returns
returns c = schedules_fit
