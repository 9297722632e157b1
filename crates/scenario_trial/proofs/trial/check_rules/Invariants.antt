-- Of those so far none is about a rule that no text has.
use Rattle.std.proofs.Common.{◌≡◌, drop, find, map}
use Rattle.scenario_trial.specs.Arrivals.{has_no_rule}
use Rattle.scenario_trial.specs.Reading.{placed_of}
use Rattle.scenario_trial.proofs.trial.check_rules.Given as goal

abbrev pub invariant-loop-placed : goal.invariant-loop-placed
invariant-loop-placed l =
    find (has_no_rule l.declared) (map placed_of (drop l.placed-index l.expectations)) ≡ find (has_no_rule l.declared) (map placed_of l.expectations)
