use Rattle.std.proofs.Common.{take}
use Rattle.std.specs.List.{AllByRecursion}
use Rattle.rule_analysis.specs.Classes.{Separates}
use Rattle.rule_analysis.proofs.thresholds.thresholds_of.Given as goal

abbrev pub invariant-loop-term : goal.invariant-loop-term
invariant-loop-term l = AllByRecursion (λ t. Separates l.all.items t) (take l.term-index l.terms)
