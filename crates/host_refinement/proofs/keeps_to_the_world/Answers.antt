use Rattle.lc_model.specs.Tables.HalvesAndBytes.{as_bytes}
use Rattle.host_refinement.specs.Statements.{AreBytes}
use Rattle.host_refinement.proofs.Laws.{each_record_keeps, bytes_are_sensible}
use Rattle.host_refinement.proofs.keeps_to_the_world.Goals as goal

pub returns : goal.returns
returns c layouts schedule = each_record_keeps (as_bytes layouts) AreBytes schedule (bytes_are_sensible layouts)
