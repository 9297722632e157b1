use Rattle.std.proofs.Common.{rules, ◌+◌}
use Rattle.flight_core.specs.Compiled.{sources_of}
use Rattle.scenario_trial.specs.Untried.{IsUntried, of_scenario, plain_script_of}
use Rattle.scenario_trial.proofs.Settling.{guessed, no_script, refused_with}
use Rattle.scenario_trial.proofs.TrialSteps.{untried_for}
use Rattle.scenario_trial.proofs.in_force.settle_script.Goals as goal

pub returns-in_err-changes-clause-refused : goal.returns-in_err-changes-clause-refused
returns-in_err-changes-clause-refused c =
    refused_with (IsUntried (sources_of c.args.inputs.texts.now) c.args.inputs.schedule.now c.args.scenario.now) c.from_residual-in_err-changes.result c.in_err-changes.field-0.0 (search rules)
    (untried_for (sources_of c.args.inputs.texts.now) c.args.inputs.schedule.now c.args.scenario.now c.args.declared.now (plain_script_of c.loop-round.plain) c.in_err-changes.field-0.0
    c.requires
    (guessed (sources_of c.args.inputs.texts.now) c.args.inputs.schedule.now c.args.declared.now c.args.scenario.now c.loop-round.round (plain_script_of c.loop-round.plain) c.loop-round.invariant)
    c.in_err-changes.ensures.refused)

pub returns-in_err-again-clause-refused : goal.returns-in_err-again-clause-refused
returns-in_err-again-clause-refused c =
    refused_with (IsUntried (sources_of c.args.inputs.texts.now) c.args.inputs.schedule.now c.args.scenario.now) c.from_residual-in_err-again.result (of_scenario c.in_err-again.field-0.0) (search rules)
    (no_script (sources_of c.args.inputs.texts.now) c.args.inputs.schedule.now c.args.declared.now c.args.scenario.now (c.loop-round.round + 1) c.as_slice.result.now c.in_err-again.field-0.0
    c.requires (search rules) c.in_err-again.ensures.refused)
