use Rattle.lc_model.specs.Tables.HalvesAndBytes.{as_bytes}
use Rattle.host_refinement.proofs.GoesOn.{runs_go_on}
use Rattle.host_refinement.proofs.goes_on.Goals as goal

pub returns : goal.returns
returns c layouts = runs_go_on (as_bytes layouts)
