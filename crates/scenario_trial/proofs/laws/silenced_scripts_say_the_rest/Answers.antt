use Rattle.scenario_trial.proofs.Comments.{silenced_says_the_rest}
use Rattle.scenario_trial.proofs.laws.silenced_scripts_say_the_rest.Goals as goal

pub returns : goal.returns
returns c = silenced_says_the_rest
