-- The law, as it was shown of the definitions.
use Rattle.scenarios.proofs.Reading.{says_values}
use Rattle.scenarios.proofs.laws.lines_say_their_values.Goals as goal

pub returns : goal.returns
returns c = says_values
