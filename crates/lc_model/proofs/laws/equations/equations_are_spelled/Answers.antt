use Rattle.lc_model.proofs.Tables.SpelledEquations.{equations_are_spelled}
use Rattle.lc_model.proofs.laws.equations.equations_are_spelled.Goals as goal

pub returns : goal.returns
returns c = equations_are_spelled
