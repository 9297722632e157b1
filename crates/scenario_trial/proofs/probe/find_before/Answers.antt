use Rattle.std.proofs.Common.{rules, ◌∙◌}
use Rattle.run_stepper.specs.Stepping.{host_in}
use Rattle.scenario_trial.specs.Probes.{finding_of}
use Rattle.scenario_trial.proofs.Lookups.{one_found}
use Rattle.scenario_trial.proofs.probe.find_before.Goals as goal

pub loop-probe-preserved : goal.loop-probe-preserved
loop-probe-preserved c =
    one_found (finding_of c.args.declared.now (host_in c.args.stepping.now)) c.args.end c.args.probes.now c.in-Some.probe.now c.loop-probe.findings.items c.push.new.self.items c.find_at.result
    (search rules) (search rules) c.in_ok-push.ensures.items
    ∙ c.loop-probe.invariant
