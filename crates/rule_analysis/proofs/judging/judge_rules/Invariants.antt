use Rattle.std.proofs.Common.{take}
use Rattle.std.specs.List.{AllZip}
use Rattle.lc_model.specs.Condition.{condition_of}
use Rattle.lc_model.specs.declared.rule.Rule.{Rule}
use Rattle.rule_analysis.specs.declared.finding.RuleJudgement.{RuleJudgement}
use Rattle.rule_analysis.specs.Findings.{IsRuleJudged}
use Rattle.rule_analysis.proofs.judging.judge_rules.Given as goal

abbrev pub invariant-loop-rule : goal.invariant-loop-rule
invariant-loop-rule l = AllZip (λ (rule : Rule) (j : RuleJudgement). IsRuleJudged (condition_of rule.cond) j) (take l.rule-index l.rules) l.judged.items
