-- Those so far, and those of the rest, are all.
use Rattle.std.proofs.Common.{◌≡◌, ◌++◌, drop, map}
use Rattle.std.specs.List.{AllByRecursion}
use Rattle.scenario_trial.specs.Probes.{IsOfLine, expected_line}
use Rattle.scenario_trial.proofs.judging.expectation_probes.Given as goal

abbrev pub invariant-loop-placed : goal.invariant-loop-placed
invariant-loop-placed l = record {
  so_far : l.probes.items ++ map (expected_line l.starts) (drop l.placed-index l.expectations) ≡ map (expected_line l.starts) l.expectations;
  inside : AllByRecursion (IsOfLine l.starts) (drop l.placed-index l.expectations);
}
