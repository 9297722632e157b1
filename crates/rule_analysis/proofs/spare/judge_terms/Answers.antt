use Rattle.std.proofs.Common.{arith, subst, sym, ◌+◌}
use Rattle.lc_model.specs.Rule.{rules_of}
use Rattle.rule_analysis.specs.Spare.{AreOfTermsBefore, AreToldUpTo}
use Rattle.rule_analysis.proofs.SpareLaws.{own_at, all_told}
use Rattle.rule_analysis.proofs.OrderLaws.{rule_begins, rule_is_done}
use Rattle.rule_analysis.proofs.spare.judge_terms.Goals as goal

pub judge_at-requires-clause-own : goal.judge_at-requires-clause-own
judge_at-requires-clause-own c = λ t e.
    own_at c.args.rules.now c.args.rule c.index-rules-rule.result c.deref.result.now c.in_ok-terms.terms.items c.loop-at.at t c.requires c.index-rules-rule.is
    c.deref.ensures.value c.in_ok-terms.ensures e

pub returns-clause-told : goal.returns-clause-told
returns-clause-told c =
    all_told c.loop-at.unsettled c.args.rules.now c.args.rule c.index-rules-rule.result c.in_ok-terms.terms.items c.loop-at.at c.loop-at.spare.items c.requires c.index-rules-rule.is
    c.in_ok-terms.ensures (omega (arith, c.loop-at-test.false)) c.loop-at.invariant.told

pub loop-at-preserved : goal.loop-at-preserved
loop-at-preserved c = record {
  sound = λ before. c.in_ok-judge_at.ensures.sound (c.loop-at.invariant.sound before);
  kept = λ s has. c.in_ok-judge_at.ensures.kept s (c.loop-at.invariant.kept s has);
  told = subst (λ terms. AreToldUpTo c.judge_at.new.unsettled (rules_of c.args.rules.now) c.judge_at.new.spare.items c.args.rule terms (c.loop-at.at + 1)) c.deref.ensures.value
      (c.in_ok-judge_at.ensures.told (subst (λ terms. AreToldUpTo c.loop-at.unsettled (rules_of c.args.rules.now) c.loop-at.spare.items c.args.rule terms c.loop-at.at)
      (sym c.deref.ensures.value) c.loop-at.invariant.told));
  grows = omega (arith, c.loop-at.invariant.grows, c.in_ok-judge_at.ensures.grows);
  once = λ are. subst (λ terms. AreOfTermsBefore c.judge_at.new.spare.items c.args.rule terms (c.loop-at.at + 1)) c.deref.ensures.value
      (c.in_ok-judge_at.ensures.once (subst (λ terms. AreOfTermsBefore c.loop-at.spare.items c.args.rule terms c.loop-at.at)
      (sym c.deref.ensures.value) (c.loop-at.invariant.once are)));
}

pub returns-clause-once : goal.returns-clause-once
returns-clause-once c = λ are. rule_is_done c.loop-at.spare.items c.args.rule c.in_ok-terms.terms.items c.loop-at.at (c.loop-at.invariant.once are)

pub loop-at-init : goal.loop-at-init
loop-at-init c = record {
  sound = λ before. before;
  kept = λ s has. has;
  told = λ k t below. absurd (omega (arith, below));
  grows = omega arith;
  once = λ are. rule_begins c.args.spare.now.items c.args.rule c.in_ok-terms.terms.items are;
}
