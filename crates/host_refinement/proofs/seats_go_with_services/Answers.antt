use Rattle.lc_model.specs.Tables.HalvesAndBytes.{as_bytes}
use Rattle.host_refinement.specs.Statements.{AreBytes}
use Rattle.host_refinement.proofs.SeatsGo.{seats_go_with}
use Rattle.host_refinement.proofs.seats_go_with_services.Goals as goal

pub returns : goal.returns
returns c layouts schedule = seats_go_with (as_bytes layouts) AreBytes schedule
