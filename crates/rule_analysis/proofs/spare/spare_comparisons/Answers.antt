use Rattle.std.proofs.Common.{arith, subst, sym}
use Rattle.lc_model.specs.declared.field.Term.{Term}
use Rattle.lc_model.specs.Rule.{rules_of}
use Rattle.rule_analysis.specs.Spare.{IsOf, IsToldOrNeeded, AreToldOrNeeded}
use Rattle.rule_analysis.proofs.WalkLaws.{decided}
use Rattle.rule_analysis.proofs.SpareLaws.{told_still, all_are_told}
use Rattle.rule_analysis.proofs.spare.spare_comparisons.Goals as goal

pub loop-rule-preserved : goal.loop-rule-preserved
loop-rule-preserved c = record {
  sound = c.in_ok-judge_terms.ensures.sound c.loop-rule.invariant.sound;
  told = λ i below. decided i c.loop-rule.rule
      (λ same. subst (λ k. (t : Term) → IsOf (rules_of c.as_slice-rules.result.now) k t → IsToldOrNeeded c.judge_terms.new.unsettled (rules_of c.as_slice-rules.result.now)
      c.judge_terms.new.spare.items k t)
      (sym same) c.in_ok-judge_terms.ensures.told)
      (λ other t of. told_still c.loop-rule.unsettled c.judge_terms.new.unsettled (rules_of c.as_slice-rules.result.now) c.loop-rule.spare.items
      c.judge_terms.new.spare.items i t c.in_ok-judge_terms.ensures.grows c.in_ok-judge_terms.ensures.kept (c.loop-rule.invariant.told i (omega (arith, below, other)) t of));
  once = c.in_ok-judge_terms.ensures.once c.loop-rule.invariant.once;
}

pub returns-clause-told : goal.returns-clause-told
returns-clause-told c =
    subst (λ rules. AreToldOrNeeded c.loop-rule.unsettled rules c.loop-rule.spare.items) c.as_slice-rules.ensures
    (all_are_told c.loop-rule.unsettled c.as_slice-rules.result.now c.loop-rule.spare.items c.loop-rule.rule c.loop-rule-test.false c.loop-rule.invariant.told)

pub returns-clause-once : goal.returns-clause-once
returns-clause-once c = c.loop-rule.invariant.once.once
