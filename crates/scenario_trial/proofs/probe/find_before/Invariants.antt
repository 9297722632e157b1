-- What was found, and what the next lines find, stay the same.
use Rattle.std.proofs.Common.{◌≡◌, ◌++◌, ◌-◌, drop, length}
use Rattle.run_stepper.specs.Stepping.{host_in}
use Rattle.scenario_trial.specs.Probes.{finding_of, findings_before}
use Rattle.scenario_trial.proofs.probe.find_before.Given as goal

abbrev pub invariant-loop-probe : goal.invariant-loop-probe
invariant-loop-probe l =
    l.findings.items ++ findings_before (finding_of l.declared (host_in l.stepping)) l.end (drop (length l.findings.items) l.probes)
    ≡ l.initial.findings.items ++ findings_before (finding_of l.declared (host_in l.stepping)) l.end (drop (length l.initial.findings.items) l.probes)

abbrev pub decreases-loop-probe : goal.decreases-loop-probe
decreases-loop-probe l = length l.probes - length l.findings.items
