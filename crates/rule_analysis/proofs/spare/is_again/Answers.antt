use Rattle.std.proofs.Common.{◌≢◌, arith, slice_get, subst, sym, ◌∙◌}
use Rattle.rule_analysis.proofs.SpareLaws.{apart_there, same_there}
use Rattle.rule_analysis.proofs.WalkLaws.{decided}
use Rattle.rule_analysis.proofs.spare.is_again.Goals as goal

pub returns-then-are_one-clause-again : goal.returns-then-are_one-clause-again
returns-then-are_one-clause-again c = λ e. (
  c.loop-i.i,
  c.loop-i-test.true,
  same_there c.args.terms.now c.loop-i.i c.args.at _ _ (omega (arith, c.loop-i-test.true, c.requires)) c.requires
      (sym c.are_one.ensures ∙ c.if-are_one.true),
)

pub loop-i-preserved : goal.loop-i-preserved
loop-i-preserved c = λ k below. decided k c.loop-i.i
    (λ same. subst (λ n. slice_get c.args.terms.now n ≢ slice_get c.args.terms.now c.args.at) (sym same)
    (apart_there c.args.terms.now c.loop-i.i c.args.at _ _ (omega (arith, c.loop-i-test.true, c.requires)) c.requires
    (sym c.are_one.ensures ∙ c.if-are_one.false)))
    (λ other. c.loop-i.invariant k (omega (arith, below, other)))

pub returns-clause-first : goal.returns-clause-first
returns-clause-first c = λ e k below. c.loop-i.invariant k (omega (arith, below, c.loop-i-test.false))
