use Rattle.std.proofs.Common.{take}
use Rattle.std.specs.List.{AllZip}
use Rattle.lc_model.specs.declared.rule.Rule.{Rule}
use Rattle.lc_model.specs.Rule.{rule_of, rules_of}
use Rattle.rule_changes.specs.declared.rule_change.RuleChange.{RuleChange}
use Rattle.rule_changes.specs.RuleChanges.{IsChangeOf}
use Rattle.rule_changes.proofs.matching.changes_of.Given as goal

abbrev pub invariant-loop-rule : goal.invariant-loop-rule
invariant-loop-rule l = AllZip (λ (rule : Rule) (change : RuleChange). IsChangeOf (rules_of l.old) (rule_of rule) change) (take l.rule-index l.new) l.changes.items
