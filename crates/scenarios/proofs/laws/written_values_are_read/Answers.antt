-- The law, as it was shown of the definitions.
use Rattle.scenarios.proofs.Written.{written_are_read}
use Rattle.scenarios.proofs.laws.written_values_are_read.Goals as goal

pub returns : goal.returns
returns c = written_are_read
