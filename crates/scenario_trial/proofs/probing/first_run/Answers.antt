use Rattle.std.proofs.Common.{refl, ap}
use Rattle.run_stepper.specs.Stepping.{host_in}
use Rattle.run_stepper.specs.Trace.{Traced}
use Rattle.scenario_trial.proofs.Runs.{begun}
use Rattle.scenario_trial.proofs.probing.first_run.Goals as goal

pub returns : goal.returns
returns c = record {
  probed =
      begun c.args.trial.now (host_in c.args.stepping.now) _ c.new-findings.result.items c.requires.ahead c.requires.account c.requires.under refl
      (ap (λ (t : Traced). t.parts) c.new.ensures) c.new-findings.ensures.items c.in_ok-find_to_next.ensures.found;
}
