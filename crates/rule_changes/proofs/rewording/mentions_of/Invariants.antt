use Rattle.std.proofs.Common.{◌≡◌, take}
use Rattle.lc_model.specs.Rule.{rules_of}
use Rattle.rule_changes.specs.RuleChanges.{mentions_of}
use Rattle.rule_changes.proofs.rewording.mentions_of.Given as goal

abbrev pub invariant-loop-rule : goal.invariant-loop-rule
invariant-loop-rule l = l.terms.items ≡ mentions_of (rules_of (take l.rule-index l.rules))
