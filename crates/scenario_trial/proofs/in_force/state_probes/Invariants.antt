-- Those so far, and those of the rest, are all.
use Rattle.std.proofs.Common.{◌≡◌, ◌++◌, ◌+◌, drop, map}
use Rattle.scenario_trial.specs.Settled.{marked_from}
use Rattle.scenario_trial.specs.Probes.{state_line}
use Rattle.scenario_trial.proofs.in_force.state_probes.Given as goal

abbrev pub invariant-loop-k : goal.invariant-loop-k
invariant-loop-k l = l.probes.items ++ map (state_line l.starts) (marked_from (l.k + 1) (drop l.k l.marks)) ≡ map (state_line l.starts) (marked_from 1 l.marks)
