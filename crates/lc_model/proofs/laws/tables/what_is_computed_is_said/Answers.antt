use Rattle.lc_model.proofs.Tables.SaidLaws.{what_is_said}
use Rattle.lc_model.proofs.laws.tables.what_is_computed_is_said.Goals as goal

pub returns : goal.returns
returns c = what_is_said
