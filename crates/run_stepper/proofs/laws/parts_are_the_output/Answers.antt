use Rattle.run_stepper.proofs.Output.{parts_are_the_output}
use Rattle.run_stepper.proofs.laws.parts_are_the_output.Goals as goal

pub returns : goal.returns
returns c = parts_are_the_output
