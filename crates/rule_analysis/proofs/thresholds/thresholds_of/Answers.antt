use Rattle.std.proofs.Common.{take}
use Rattle.rule_analysis.specs.Classes.{Separates}
use Rattle.rule_analysis.proofs.Each.{each, one_more}
use Rattle.rule_analysis.proofs.thresholds.thresholds_of.Goals as goal

pub loop-term-preserved : goal.loop-term-preserved
loop-term-preserved c =
    one_more (λ t. Separates c.push_thresholds.new.all.items t) c.args.terms.now c.loop-term.term-index _ c.loop-term-test.true
    (each (take c.loop-term.term-index c.args.terms.now) c.in_ok-push_thresholds.ensures.others c.loop-term.invariant) c.in_ok-push_thresholds.ensures.own
