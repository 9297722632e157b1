use Rattle.std.proofs.Common.{◌≡◌, arith, sym, ◌∙◌, ap}
use Rattle.diagnostics.specs.Line.{line_start}
use Rattle.diagnostics.proofs.Starts.{at_feed, at_first, before_feed}
use Rattle.diagnostics.proofs.line.line_start.Goals as goal

pub loop-start-preserved : goal.loop-start-preserved
loop-start-preserved c = (
  omega (arith, c.loop-start.invariant.0),
  sym (before_feed c.args.text.now c.loop-start.start c.loop-start-test.true c.if-text-start-eq-LINE_FEED.false)
      ∙ c.loop-start.invariant.1,
)

pub returns-after-loop-start-clause-start : goal.returns-after-loop-start-clause-start
returns-after-loop-start-clause-start c =
    let first : c.loop-start.start ≡ 0 = omega (arith, c.loop-start-test.false) in
    first ∙ sym (at_first c.args.text.now) ∙ ap (λ at. line_start c.args.text.now at) (sym first) ∙ c.loop-start.invariant.1

pub returns-then-text-start-eq-LINE_FEED-clause-start : goal.returns-then-text-start-eq-LINE_FEED-clause-start
returns-then-text-start-eq-LINE_FEED-clause-start c =
    sym (at_feed c.args.text.now c.loop-start.start c.loop-start-test.true c.if-text-start-eq-LINE_FEED.true)
    ∙ c.loop-start.invariant.1
