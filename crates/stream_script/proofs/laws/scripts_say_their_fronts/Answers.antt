-- The law, as it was shown of the definitions.
use Rattle.stream_script.proofs.Fronts.{says_its_fronts}
use Rattle.stream_script.proofs.laws.scripts_say_their_fronts.Goals as goal

pub returns : goal.returns
returns c = says_its_fronts
