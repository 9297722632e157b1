use Rattle.std.proofs.Common.{subst}
use Rattle.lc_model.specs.Condition.{condition_of}
use Rattle.lc_model.specs.Rule.{NamedRule, rule_of}
use Rattle.lc_model.specs.declared.rule.Rule.{Rule}
use Rattle.rule_analysis.specs.declared.finding.RuleJudgement.{RuleJudgement}
use Rattle.rule_analysis.specs.Findings.{IsRuleJudged}
use Rattle.rule_analysis.proofs.Each.{one_pair_more, all_pairs, mapped_pairs}
use Rattle.rule_analysis.proofs.judging.judge_rules.Goals as goal

abbrev IsJudged : Rule → RuleJudgement → Type 0
IsJudged rule j = IsRuleJudged (condition_of rule.cond) j

pub loop-rule-preserved : goal.loop-rule-preserved
loop-rule-preserved c =
    one_pair_more IsJudged c.args.rules.now c.loop-rule.rule-index c.rule-item.result c.loop-rule.judged.items c.push.new.self.items c.in_ok-judge_condition.field-0
    c.loop-rule-test.true c.loop-rule.invariant (subst (λ rule. IsJudged rule c.in_ok-judge_condition.field-0) c.rule-item.is c.in_ok-judge_condition.ensures)
    c.in_ok-push.ensures.items

pub returns : goal.returns
returns c =
    mapped_pairs rule_of (λ (rule : NamedRule) (j : RuleJudgement). IsRuleJudged rule.action.condition j) c.args.rules.now c.loop-rule.judged.items
    (all_pairs IsJudged c.args.rules.now c.loop-rule.rule-index c.loop-rule.judged.items c.loop-rule-test.false c.loop-rule.invariant)
