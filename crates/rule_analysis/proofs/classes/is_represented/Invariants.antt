use Rattle.std.proofs.Common.{take}
use Rattle.std.specs.Prelude.{IsFalse}
use Rattle.std.specs.List.{AllByRecursion}
use Rattle.rule_analysis.specs.Steps.{says_alike}
use Rattle.rule_analysis.proofs.classes.is_represented.Given as goal

abbrev pub invariant-loop-one : goal.invariant-loop-one
invariant-loop-one l = AllByRecursion (λ candidate. IsFalse (says_alike l.terms candidate l.bits)) (take l.one-index l.kept)
