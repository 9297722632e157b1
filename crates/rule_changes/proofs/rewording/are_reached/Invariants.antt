use Rattle.std.proofs.Common.{take}
use Rattle.std.specs.Prelude.{IsTrue}
use Rattle.std.specs.List.{AllByRecursion, list_any}
use Rattle.rule_changes.specs.RuleChanges.{reaches}
use Rattle.rule_changes.proofs.rewording.are_reached.Given as goal

abbrev pub invariant-loop-term : goal.invariant-loop-term
invariant-loop-term l = AllByRecursion (λ t. IsTrue (list_any (reaches t) l.others)) (take l.term-index l.terms)
