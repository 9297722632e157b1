-- What is left has the rule that all have.
use Rattle.std.proofs.Common.{◌≡◌, drop}
use Rattle.scenarios.specs.Rules.{first_rule, number_of}
use Rattle.scenarios.proofs.rules.first_number.Given as goal

abbrev pub invariant-loop-rule : goal.invariant-loop-rule
invariant-loop-rule l = number_of (first_rule l.name (drop l.rule-index l.rules)) ≡ number_of (first_rule l.name l.rules)
