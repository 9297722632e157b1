use Rattle.run_stepper.proofs.SeenThrough.{runs_are_seen_through}
use Rattle.run_stepper.proofs.laws.runs_are_seen_through.Goals as goal

pub returns : goal.returns
returns c = runs_are_seen_through
