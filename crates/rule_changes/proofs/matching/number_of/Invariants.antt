use Rattle.std.proofs.Common.{◌≡◌, drop}
use Rattle.std.specs.List.{list_any}
use Rattle.lc_model.specs.Rule.{rules_of}
use Rattle.rule_changes.specs.RuleChanges.{has_name}
use Rattle.rule_changes.proofs.matching.number_of.Given as goal

abbrev pub invariant-loop-number : goal.invariant-loop-number
invariant-loop-number l = list_any (has_name l.name) (rules_of l.rules) ≡ list_any (has_name l.name) (rules_of (drop l.number l.rules))
