-- One of those that are left has the name where one of all has it.
use Rattle.std.proofs.Common.{◌≡◌, drop}
use Rattle.lc_model.specs.Rule.{rules_of}
use Rattle.scenario_trial.specs.Origin.{has_named}
use Rattle.scenario_trial.proofs.origin.has_named.Given as goal

abbrev pub invariant-loop-rule : goal.invariant-loop-rule
invariant-loop-rule l = has_named l.name (rules_of (drop l.rule-index l.rules)) ≡ has_named l.name (rules_of l.rules)
