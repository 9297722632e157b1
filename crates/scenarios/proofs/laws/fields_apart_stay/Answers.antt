-- The law, as it was shown of the definitions.
use Rattle.scenarios.proofs.Apart.{apart_stay}
use Rattle.scenarios.proofs.laws.fields_apart_stay.Goals as goal

pub returns : goal.returns
returns c = apart_stay
