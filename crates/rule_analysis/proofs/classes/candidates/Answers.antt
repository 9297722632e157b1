use Rattle.std.proofs.Common.{take, subst, sym}
use Rattle.std.specs.List.{AllByRecursion}
use Rattle.rule_analysis.specs.Classes.{Covers, Separates}
use Rattle.rule_analysis.proofs.Each.{each, one_more, whole}
use Rattle.rule_analysis.proofs.ClassLaws.{all_covered}
use Rattle.rule_analysis.proofs.StepLaws.{none_is_apart}
use Rattle.rule_analysis.proofs.classes.candidates.Goals as goal

pub loop-threshold-init : goal.loop-threshold-init
loop-threshold-init c = record {
  zero = c.in_ok-keep.ensures.covers;
  so_far = tt;
  apart = c.in_ok-keep.ensures.apart (none_is_apart c.args.terms.now c.new-kept.result.items c.new-kept.ensures.items);
}

pub loop-threshold-preserved : goal.loop-threshold-preserved
loop-threshold-preserved c = record {
  zero = c.in_ok-keep-2.ensures.others 0 c.loop-threshold.invariant.zero;
  so_far = one_more (λ threshold. Covers c.args.terms.now c.args.mask c.keep-in-loop-threshold.new.kept.items threshold)
      c.deref-threshold-items.result.now c.loop-threshold.threshold-index _ c.loop-threshold-test.true
      (each (take c.loop-threshold.threshold-index c.deref-threshold-items.result.now) c.in_ok-keep-2.ensures.others c.loop-threshold.invariant.so_far)
      c.in_ok-keep-2.ensures.covers;
  apart = c.in_ok-keep-2.ensures.apart c.loop-threshold.invariant.apart;
}

pub returns-clause-represent : goal.returns-clause-represent
returns-clause-represent c =
    all_covered c.args.terms.now c.args.mask c.deref-threshold-items.result.now c.loop-threshold.kept.items c.ranges.mask.fits c.requires
    (subst (λ thresholds. AllByRecursion (λ t. Separates thresholds t) c.args.terms.now) (sym c.deref-threshold-items.ensures.value) c.in_ok-thresholds_of.ensures)
    c.loop-threshold.invariant.zero
    (whole (λ threshold. Covers c.args.terms.now c.args.mask c.loop-threshold.kept.items threshold) c.deref-threshold-items.result.now
    c.loop-threshold.threshold-index c.loop-threshold-test.false c.loop-threshold.invariant.so_far)
