use Rattle.run_stepper.proofs.Stepped.{steps_are_a_run}
use Rattle.run_stepper.proofs.laws.steps_are_a_run.Goals as goal

pub returns : goal.returns
returns c = steps_are_a_run
