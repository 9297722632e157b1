use Rattle.std.proofs.Common.{◌∙◌, refl, ap, length}
use Rattle.std.proofs.lemmas.List.{length-map}
use Rattle.std.proofs.lemmas.Slice.Zip.{AllZip-long}
use Rattle.flight_core.specs.Compiled.{sources_of}
use Rattle.scenario_trial.specs.declared.probing.Trial.{Trial}
use Rattle.scenario_trial.specs.Probes.{expected_line}
use Rattle.scenario_trial.specs.Probing.{IsFoundThere}
use Rattle.scenario_trial.specs.Untried.{plain_script_of}
use Rattle.scenario_trial.proofs.Ahead.{ahead_as, inside_as}
use Rattle.scenario_trial.proofs.Expecting.{judged_so}
use Rattle.scenario_trial.proofs.trial.run_plain.Goals as goal

pub expectation_probes-requires : goal.expectation_probes-requires
expectation_probes-requires c =
    inside_as c.args.plain.now.text.items c.args.quiet.now c.in_ok-said.said.stream.items c.in_ok-said.said.starts.items c.as_slice.result.now c.args.expectations.now
    c.requires.said c.requires.quiet c.in_ok-said.ensures.starts c.as_slice.ensures.value

pub run_whole-requires-clause-ahead : goal.run_whole-requires-clause-ahead
run_whole-requires-clause-ahead c =
    ahead_as c.args.plain.now.text.items c.args.quiet.now c.in_ok-said.said.stream.items c.in_ok-said.said.starts.items c.as_slice.result.now c.as_slice-3.result.now c.args.expectations.now c.as_slice-4.result.now
    c.requires.said c.requires.quiet c.in_ok-said.ensures.starts c.as_slice.ensures.value c.as_slice-3.ensures.value (c.as_slice-4.ensures.value ∙ c.in_ok-probes.ensures)

pub judged_of-requires : goal.judged_of-requires
judged_of-requires c =
    ap length c.as_slice-5.ensures.value
    ∙ AllZip-long (IsFoundThere (sources_of c.args.inputs.texts.now) c.args.inputs.schedule.now c.args.declared.now c.args.quiet.now) c.as_slice-4.result.now c.in_ok-run.run'.findings.items c.in_ok-run.ensures.found
    ∙ ap length (c.as_slice-4.ensures.value ∙ c.in_ok-probes.ensures)
    ∙ length-map c.args.expectations.now (expected_line c.as_slice.result.now)

pub returns-clause-ran : goal.returns-clause-ran
returns-clause-ran c =
    let it : Trial = record {
      alloc = c.args.alloc;
      inputs = c.args.inputs;
      declared = c.args.declared;
      script = c.args.quiet;
      stream = c.as_slice-2.result;
      starts = c.as_slice-3.result;
      probes = c.as_slice-4.result;
      texts = c.args.texts;
    } in
    judged_so it (plain_script_of c.args.plain.now) c.args.expectations.now c.in_ok-said.said.stream.items c.as_slice.result.now c.as_slice-5.result.now c.in_ok-run.run' _
    c.requires.quiet c.in_ok-said.ensures.said c.as_slice-2.ensures.value (c.as_slice-4.ensures.value ∙ c.in_ok-probes.ensures) c.as_slice-5.ensures.value
    c.in_ok-run.ensures.traced c.in_ok-run.ensures.whole c.in_ok-run.ensures.over c.in_ok-run.ensures.found refl refl c.in_ok-judged.ensures
