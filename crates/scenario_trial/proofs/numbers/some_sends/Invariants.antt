-- One of those that are left sends it where one of all does.
use Rattle.std.proofs.Common.{◌≡◌, drop}
use Rattle.std.specs.List.{list_any}
use Rattle.lc_model.specs.Rule.{rules_of}
use Rattle.scenario_trial.specs.Numbers.{sends}
use Rattle.scenario_trial.proofs.numbers.some_sends.Given as goal

abbrev pub invariant-loop-rule : goal.invariant-loop-rule
invariant-loop-rule l = list_any (sends l.kind l.number) (rules_of (drop l.rule-index l.rules)) ≡ list_any (sends l.kind l.number) (rules_of l.rules)
