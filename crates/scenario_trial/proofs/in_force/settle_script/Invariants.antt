-- The plain script is that of the rounds so far.
use Rattle.flight_core.specs.Compiled.{sources_of}
use Rattle.scenario_trial.specs.Untried.{plain_script_of}
use Rattle.scenario_trial.proofs.Settling.{InRound}
use Rattle.scenario_trial.proofs.in_force.settle_script.Given as goal

abbrev pub invariant-loop-round : goal.invariant-loop-round
invariant-loop-round l = InRound (sources_of l.inputs.texts.now) l.inputs.schedule.now l.declared l.scenario l.round (plain_script_of l.plain)
