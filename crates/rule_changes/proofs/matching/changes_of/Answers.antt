use Rattle.std.proofs.Common.{subst}
use Rattle.lc_model.specs.declared.rule.Rule.{Rule}
use Rattle.lc_model.specs.Rule.{rule_of, rules_of}
use Rattle.rule_analysis.proofs.Each.{one_pair_more, all_pairs, mapped_pairs}
use Rattle.rule_changes.specs.declared.rule_change.RuleChange.{RuleChange}
use Rattle.rule_changes.specs.RuleChanges.{IsChangeOf}
use Rattle.rule_changes.proofs.matching.changes_of.Goals as goal

pub loop-rule-preserved : goal.loop-rule-preserved
loop-rule-preserved c =
    one_pair_more (λ (rule : Rule) (change : RuleChange). IsChangeOf (rules_of c.args.old.now) (rule_of rule) change) c.args.new.now c.loop-rule.rule-index
    c.rule-item.result c.loop-rule.changes.items c.push.new.self.items c.in_ok-change.change c.loop-rule-test.true c.loop-rule.invariant
    (subst (λ (rule : Rule). IsChangeOf (rules_of c.args.old.now) (rule_of rule) c.in_ok-change.change) c.rule-item.is c.in_ok-change.ensures)
    c.in_ok-push.ensures.items

pub returns : goal.returns
returns c =
    mapped_pairs rule_of (IsChangeOf (rules_of c.args.old.now)) c.args.new.now c.loop-rule.changes.items
    (all_pairs (λ (rule : Rule) (change : RuleChange). IsChangeOf (rules_of c.args.old.now) (rule_of rule) change) c.args.new.now c.loop-rule.rule-index
    c.loop-rule.changes.items c.loop-rule-test.false c.loop-rule.invariant)
