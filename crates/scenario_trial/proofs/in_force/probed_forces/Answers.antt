use Rattle.std.proofs.Common.{◌∙◌, sym, ap, length}
use Rattle.std.proofs.lemmas.Slice.Zip.{AllZip-long}
use Rattle.flight_core.specs.Compiled.{sources_of}
use Rattle.scenario_trial.specs.Probing.{IsFoundThere}
use Rattle.scenario_trial.specs.Reading.{silenced_in}
use Rattle.scenario_trial.proofs.Forces.{ahead_as, shown_as}
use Rattle.scenario_trial.proofs.in_force.probed_forces.Goals as goal

pub run_whole-requires-clause-ahead : goal.run_whole-requires-clause-ahead
run_whole-requires-clause-ahead c =
    ahead_as c.args.quiet.now c.in_ok-said.said.stream.items c.in_ok-said.said.starts.items c.as_slice.result.now c.as_slice-3.result.now c.args.marks.now c.as_slice-4.result.now
    c.in_ok-said.ensures.starts c.requires.marks c.as_slice.ensures.value c.as_slice-3.ensures.value (c.as_slice-4.ensures.value ∙ c.in_ok-probes.ensures)

pub changes_of-requires : goal.changes_of-requires
changes_of-requires c =
    ap length c.as_slice-6.ensures.value
    ∙ AllZip-long (IsFoundThere (sources_of c.args.inputs.texts.now) c.args.inputs.schedule.now c.args.declared.now c.args.quiet.now) c.as_slice-4.result.now c.in_ok-run.run'.findings.items c.in_ok-run.ensures.found
    ∙ ap length (c.as_slice-4.ensures.value ∙ sym c.as_slice-5.ensures.value)

pub returns-clause-shown : goal.returns-clause-shown
returns-clause-shown c =
    shown_as (sources_of c.args.inputs.texts.now) c.args.inputs.schedule.now c.args.declared.now (silenced_in c.args.plain.now.text.items) c.args.quiet.now c.as_slice.result.now c.args.marks.now
    c.as_slice-4.result.now c.as_slice-5.result.now c.in_ok-run.run'.findings.items c.as_slice-6.result.now c.in_ok-changes_of.field-0.items c.requires.quiet c.requires.marks
    (c.as_slice-4.ensures.value ∙ c.in_ok-probes.ensures) (c.as_slice-5.ensures.value ∙ sym c.as_slice-4.ensures.value) c.as_slice-6.ensures.value c.in_ok-run.ensures.found c.in_ok-changes_of.ensures
