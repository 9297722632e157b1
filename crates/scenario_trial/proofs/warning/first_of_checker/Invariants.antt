-- The first of those that are left is the first of all.
use Rattle.std.proofs.Common.{◌≡◌, drop, find, map}
use Rattle.scenario_trial.specs.Reading.{placed_of}
use Rattle.scenario_trial.specs.Warned.{asks_checker}
use Rattle.scenario_trial.proofs.warning.first_of_checker.Given as goal

abbrev pub invariant-loop-placed : goal.invariant-loop-placed
invariant-loop-placed l = find asks_checker (map placed_of (drop l.placed-index l.expectations)) ≡ find asks_checker (map placed_of l.expectations)
