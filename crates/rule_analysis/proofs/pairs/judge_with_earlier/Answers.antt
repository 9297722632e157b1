use Rattle.std.proofs.Common.{arith, subst, sym}
use Rattle.lc_model.specs.Rule.{rules_of}
use Rattle.rule_analysis.specs.Findings.{IsSettledAt}
use Rattle.rule_analysis.proofs.WalkLaws.{decided}
use Rattle.rule_analysis.proofs.PairLaws.{settled_still}
use Rattle.rule_analysis.proofs.OrderLaws.{second_is_done}
use Rattle.rule_analysis.proofs.pairs.judge_with_earlier.Goals as goal

pub loop-first-preserved : goal.loop-first-preserved
loop-first-preserved c = record {
  sound = λ before. c.in_ok-judge_pair.ensures.sound (c.loop-first.invariant.sound before);
  kept = λ p has. c.in_ok-judge_pair.ensures.kept p (c.loop-first.invariant.kept p has);
  settled = λ k below. decided k c.loop-first.first
      (λ same. subst (λ i. IsSettledAt c.judge_pair.new.unsettled (rules_of c.args.rules.now) c.judge_pair.new.pairs.items i c.args.second) (sym same) c.in_ok-judge_pair.ensures.settled)
      (λ other. settled_still c.loop-first.unsettled c.judge_pair.new.unsettled (rules_of c.args.rules.now) c.loop-first.pairs.items c.judge_pair.new.pairs.items k
      c.args.second c.in_ok-judge_pair.ensures.grows c.in_ok-judge_pair.ensures.kept
      (c.loop-first.invariant.settled k (omega (arith, below, other))));
  grows = omega (arith, c.loop-first.invariant.grows, c.in_ok-judge_pair.ensures.grows);
  order = λ are. c.in_ok-judge_pair.ensures.order (c.loop-first.invariant.order are);
}

pub returns-clause-settled : goal.returns-clause-settled
returns-clause-settled c = λ first below. c.loop-first.invariant.settled first (omega (arith, below, c.loop-first-test.false))

pub returns-clause-order : goal.returns-clause-order
returns-clause-order c = λ are. second_is_done c.loop-first.pairs.items c.loop-first.first c.args.second (c.loop-first.invariant.order are)
