-- Those so far, and those of the rest, are all arrivals.
use Rattle.std.proofs.Common.{◌≡◌, ◌++◌, drop}
use Rattle.std.specs.Prelude.{filter_map}
use Rattle.scenario_trial.specs.Arrivals.{arrival_of}
use Rattle.scenario_trial.proofs.trial.arrivals_of.Given as goal

abbrev pub invariant-loop-one : goal.invariant-loop-one
invariant-loop-one l = l.arrivals.items ++ filter_map arrival_of (drop l.one-index l.came) ≡ filter_map arrival_of l.came
