use Rattle.lc_model.specs.Tables.HalvesAndBytes.{as_bytes, as_halves}
use Rattle.lc_model.proofs.Host.RunsGoOn.{runs_go_on}
use Rattle.lc_model.proofs.laws.runs.runs_go_on.Goals as goal

pub returns-clause-halves : goal.returns-clause-halves
returns-clause-halves c layouts = runs_go_on (as_halves layouts)

pub returns-clause-bytes : goal.returns-clause-bytes
returns-clause-bytes c layouts = runs_go_on (as_bytes layouts)
