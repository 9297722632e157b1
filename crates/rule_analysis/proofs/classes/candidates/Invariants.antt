use Rattle.std.proofs.Common.{take}
use Rattle.std.specs.List.{AllByRecursion}
use Rattle.rule_analysis.specs.Classes.{Covers}
use Rattle.rule_analysis.specs.Steps.{AreApart}
use Rattle.rule_analysis.proofs.classes.candidates.Given as goal

abbrev pub invariant-loop-threshold : goal.invariant-loop-threshold
invariant-loop-threshold l = record {
  zero : Covers l.terms l.mask l.kept.items 0;
  so_far : AllByRecursion (λ threshold. Covers l.terms l.mask l.kept.items threshold) (take l.threshold-index l.threshold-items);
  apart : AreApart l.terms l.kept.items;
}
