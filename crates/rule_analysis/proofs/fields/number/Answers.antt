use Rattle.std.proofs.Common.{sym, ◌∙◌, arith, refl}
use Rattle.rule_analysis.proofs.Tried.{number_here, number_on, number_none}
use Rattle.rule_analysis.proofs.fields.number.Goals as goal

pub returns-then-reads : goal.returns-then-reads
returns-then-reads c =
    number_here c.args.fields.now c.args.term.now c.loop-i.i _ _ c.loop-i-test.true refl (sym c.reads.ensures ∙ c.if-reads.true) c.loop-i.invariant

pub loop-i-preserved : goal.loop-i-preserved
loop-i-preserved c =
    number_on c.args.fields.now c.args.term.now c.loop-i.i _ _ c.loop-i-test.true refl (sym c.reads.ensures ∙ c.if-reads.false) c.loop-i.invariant

pub returns : goal.returns
returns c = number_none c.args.fields.now c.args.term.now c.loop-i.i c.loop-i-test.false (omega arith) c.loop-i.invariant
