use Rattle.std.proofs.Common.{take}
use Rattle.rule_analysis.specs.Findings.{AreComparisons}
use Rattle.rule_analysis.proofs.judging.comparisons.Given as goal

abbrev pub invariant-loop-term : goal.invariant-loop-term
invariant-loop-term l = AreComparisons (take l.term-index l.terms) l.judged.items
