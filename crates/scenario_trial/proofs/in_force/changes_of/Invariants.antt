-- Those so far, and those of the rest, are all.
use Rattle.std.proofs.Common.{◌≡◌, ◌++◌, drop}
use Rattle.scenario_trial.specs.Probes.{changes_by}
use Rattle.scenario_trial.proofs.in_force.changes_of.Given as goal

abbrev pub invariant-loop-k : goal.invariant-loop-k
invariant-loop-k l = l.changes.items ++ changes_by (drop l.k l.probes) (drop l.k l.findings) ≡ changes_by l.probes l.findings
