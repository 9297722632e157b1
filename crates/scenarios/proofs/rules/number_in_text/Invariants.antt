-- What is left has the rule that all have.
use Rattle.std.proofs.Common.{◌≡◌, drop}
use Rattle.scenarios.specs.Rules.{number_of, rule_of_text}
use Rattle.scenarios.proofs.rules.number_in_text.Given as goal

abbrev pub invariant-loop-rule : goal.invariant-loop-rule
invariant-loop-rule l = number_of (rule_of_text l.text l.name (drop l.rule-index l.rules)) ≡ number_of (rule_of_text l.text l.name l.rules)
