use Rattle.lc_model.specs.Tables.HalvesAndBytes.{as_bytes}
use Rattle.host_refinement.specs.Statements.{AreBytes}
use Rattle.host_refinement.proofs.Laws.{writes_what_is_called_for, bytes_are_sensible}
use Rattle.host_refinement.proofs.writes_what_is_called_for.Goals as goal

pub returns : goal.returns
returns c layouts schedule = writes_what_is_called_for (as_bytes layouts) AreBytes schedule (bytes_are_sensible layouts)
