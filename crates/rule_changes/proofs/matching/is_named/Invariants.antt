use Rattle.std.proofs.Common.{◌≡◌, drop}
use Rattle.std.specs.List.{list_any}
use Rattle.lc_model.specs.Rule.{rules_of}
use Rattle.rule_changes.specs.RuleChanges.{has_name}
use Rattle.rule_changes.proofs.matching.is_named.Given as goal

abbrev pub invariant-loop-rule : goal.invariant-loop-rule
invariant-loop-rule l = list_any (has_name l.name) (rules_of l.rules) ≡ list_any (has_name l.name) (rules_of (drop l.rule-index l.rules))
