-- Those so far, and those of the rest, are all.
use Rattle.std.proofs.Common.{◌≡◌, ◌++◌, drop}
use Rattle.scenario_trial.specs.Probes.{judged_by}
use Rattle.scenario_trial.proofs.judging.judged_of.Given as goal

abbrev pub invariant-loop-k : goal.invariant-loop-k
invariant-loop-k l = l.judged.items ++ judged_by (drop l.k l.expectations) (drop l.k l.findings) ≡ judged_by l.expectations l.findings
