use Rattle.std.proofs.Common.{arith, subst, sym, ℕ, ◌<◌}
use Rattle.lc_model.specs.Rule.{rules_of}
use Rattle.rule_analysis.specs.Findings.{IsSettledAt, AreSettled}
use Rattle.rule_analysis.proofs.WalkLaws.{decided}
use Rattle.rule_analysis.proofs.PairLaws.{settled_still, all_settled}
use Rattle.rule_analysis.proofs.pairs.judge_pairs.Goals as goal

pub loop-second-preserved : goal.loop-second-preserved
loop-second-preserved c = record {
  sound = c.in_ok-judge_with_earlier.ensures.sound c.loop-second.invariant.sound;
  settled = λ j below. decided j c.loop-second.second
      (λ same. subst (λ k. (i : ℕ) → i < k → IsSettledAt c.judge_with_earlier.new.unsettled (rules_of c.as_slice-rules.result.now) c.judge_with_earlier.new.pairs.items i k) (sym same)
      c.in_ok-judge_with_earlier.ensures.settled)
      (λ other i less. settled_still c.loop-second.unsettled c.judge_with_earlier.new.unsettled (rules_of c.as_slice-rules.result.now) c.loop-second.pairs.items
      c.judge_with_earlier.new.pairs.items i j c.in_ok-judge_with_earlier.ensures.grows c.in_ok-judge_with_earlier.ensures.kept (c.loop-second.invariant.settled j (omega (arith, below, other)) i less));
  order = c.in_ok-judge_with_earlier.ensures.order c.loop-second.invariant.order;
}

pub returns-clause-settled : goal.returns-clause-settled
returns-clause-settled c =
    subst (λ rules. AreSettled c.loop-second.unsettled rules c.loop-second.pairs.items) c.as_slice-rules.ensures
    (all_settled c.loop-second.unsettled c.as_slice-rules.result.now c.loop-second.pairs.items c.loop-second.second c.loop-second-test.false c.loop-second.invariant.settled)

pub returns-clause-once : goal.returns-clause-once
returns-clause-once c = c.loop-second.invariant.order.in_order
