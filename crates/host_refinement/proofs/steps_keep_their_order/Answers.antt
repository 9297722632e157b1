use Rattle.lc_model.specs.Tables.HalvesAndBytes.{as_bytes}
use Rattle.host_refinement.proofs.FilesStay.{files_stay_a_map}
use Rattle.host_refinement.proofs.NamesStay.{pipes_follow_states, names_stay_own}
use Rattle.host_refinement.proofs.steps_keep_their_order.Goals as goal

pub returns-clause-files : goal.returns-clause-files
returns-clause-files c layouts = files_stay_a_map (as_bytes layouts)

pub returns-clause-names : goal.returns-clause-names
returns-clause-names c layouts = names_stay_own (as_bytes layouts)

pub returns-clause-pipes : goal.returns-clause-pipes
returns-clause-pipes c layouts = pipes_follow_states (as_bytes layouts)
