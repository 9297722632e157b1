use Rattle.std.proofs.Common.{rules}
use Rattle.flight_core.specs.Compiled.{sources_of}
use Rattle.scenario_trial.specs.Reading.{silenced_in}
use Rattle.scenario_trial.proofs.Forces.{nothing_shown}
use Rattle.scenario_trial.proofs.in_force.shown_forces.Goals as goal

pub returns-then-not-is_some_marked-clause-shown : goal.returns-then-not-is_some_marked-clause-shown
returns-then-not-is_some_marked-clause-shown c =
    nothing_shown (sources_of c.args.inputs.texts.now) c.args.inputs.schedule.now (silenced_in c.args.plain.now.text.items) c.as_slice-2.result.now c.in_ok-marks.marks.items c.as_slice-3.result.now c.new.result.items
    (search rules) c.in_ok-marks.ensures (search rules) (search rules) c.new.ensures.items
