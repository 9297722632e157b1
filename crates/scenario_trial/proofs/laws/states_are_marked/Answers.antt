use Rattle.scenario_trial.proofs.Marked.{states_are_marked}
use Rattle.scenario_trial.proofs.laws.states_are_marked.Goals as goal

pub returns : goal.returns
returns c = states_are_marked
