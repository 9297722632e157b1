use Rattle.std.proofs.Common.{arith, refl}
use Rattle.script_errors.proofs.Places.{kept_behind_feed, kept_behind_other, start_of_text}
use Rattle.script_errors.proofs.line.line_begin.Goals.{else-text-at-eq10, then-text-at-eq10}
use Rattle.script_errors.proofs.line.line_begin.Goals as goal

pub loop-line-init : goal.loop-line-init
loop-line-init c = (omega arith, refl, c.requires.some, λ _. start_of_text c.args.text.now)

pub loop-line-preserved : goal.loop-line-preserved
loop-line-preserved c =
    let kept = kept_behind_feed c.args.text.now c.args.number c.loop-line.at c.loop-line.line c.if-text-at-eq10.line c.if-at-text.true
    c.loop-line-test.true c.loop-line.invariant.1 in
    let stays = kept_behind_other c.args.text.now c.args.number c.loop-line.at c.loop-line.line c.if-text-at-eq10.line c.if-at-text.true
    c.loop-line-test.true c.loop-line.invariant.1 in
    elim c.if-text-at-eq10.branch [
      | then-text-at-eq10 w ↦ kept w.if-text-at-eq10.true w.line-is
      | else-text-at-eq10 w ↦ stays w.if-text-at-eq10.false w.line-is
    ]
