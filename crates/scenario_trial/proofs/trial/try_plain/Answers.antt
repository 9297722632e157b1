use Rattle.std.proofs.Common.{◌∙◌, sym, refl, ap, length, map, List, Ok}
use Rattle.flight_core.specs.Compiled.{sources_of}
use Rattle.scenario_trial.specs.declared.expectation_lines.Placed.{Placed}
use Rattle.scenario_trial.specs.declared.verdict.Judged.{Judged}
use Rattle.scenario_trial.specs.Arrivals.{arrivals_of}
use Rattle.scenario_trial.specs.Judged.{unmet_of}
use Rattle.scenario_trial.specs.Reading.{placed_of}
use Rattle.scenario_trial.specs.Untried.{plain_script_of}
use Rattle.scenario_trial.specs.Warned.{warnings_of}
use Rattle.scenario_trial.proofs.TrialSteps.{tried_by}
use Rattle.scenario_trial.proofs.trial.try_plain.Goals as goal

pub returns-clause-tried : goal.returns-clause-tried
returns-clause-tried g c =
    tried_by (sources_of c.args.inputs.texts.now) c.args.inputs.schedule.now c.args.texts.now c.args.declared.now (plain_script_of c.args.plain.now) c.as_slice-expected.result.now c.in_ok-run.run' _
    (c.in_ok-expectations.ensures.said ∙ ap (λ (them : List Placed). Ok (map placed_of them)) (sym c.as_slice-expected.ensures.value)) c.in_ok-check_rules.ensures.known c.in_ok-run.ensures.ran
    (c.in_ok-judgment.ensures.counted
    ∙ ap (λ (them : List Judged). record { expected = length them; unmet = length (unmet_of (arrivals_of c.in_ok-run.run'.trace) them) }) c.as_slice-judged.ensures.value)
    (c.in_ok-judgment.ensures.warned
    ∙ ap (λ (them : List Judged). warnings_of c.args.texts.now c.args.declared.now c.args.plain.now.lines.items them (map placed_of c.as_slice-expected.result.now) c.in_ok-run.run'.trace.parts) c.as_slice-judged.ensures.value)
    refl
