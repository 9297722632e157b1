use Rattle.lc_model.specs.Tables.HalvesAndBytes.{as_bytes}
use Rattle.host_refinement.specs.Statements.{AreBytes}
use Rattle.host_refinement.proofs.Runs.{begins_so}
use Rattle.host_refinement.proofs.begins_as_the_world.Goals as goal

pub returns : goal.returns
returns c layouts schedule = begins_so (as_bytes layouts) AreBytes schedule
