use Rattle.std.proofs.Common.{List, sym, subst}
use Rattle.flight_core.specs.Compiled.{sources_of}
use Rattle.rpn_compiler.specs.TextParts.{AreTextsOf}
use Rattle.scenario_trial.specs.declared.warning.TrialWarning.{TrialWarning}
use Rattle.scenario_trial.specs.Warned.{IsWarnedBefore}
use Rattle.scenario_trial.proofs.TrialSteps.{tried_so}
use Rattle.scenario_trial.proofs.trial.try_scenario.Goals as goal

pub returns-in-Ok-clause-tried : goal.returns-in-Ok-clause-tried
returns-in-Ok-clause-tried g c =
    let read = subst (AreTextsOf (sources_of c.args.plan.texts.now)) (sym c.as_slice-texts.ensures.value) c.in_ok-found.ensures.read in
    tried_so (sources_of c.args.plan.texts.now) c.args.plan.schedule.now c.args.scenario.now c.as_slice-texts.result.now _ _ _ c.in-Ok.run' c.in_ok-with_warnings-in-Ok.field-0
    read (c.in_ok-declared.ensures (sources_of c.args.plan.texts.now) read) c.in_ok-script.ensures.settled c.in-Ok.ensures.tried
    (subst (λ (first : List TrialWarning). IsWarnedBefore first c.in-Ok.run' c.in_ok-with_warnings-in-Ok.field-0) c.in_ok-first.ensures c.in_ok-with_warnings-in-Ok.ensures)
