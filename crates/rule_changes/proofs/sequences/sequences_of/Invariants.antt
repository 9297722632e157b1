use Rattle.std.specs.List.{AllByRecursion}
use Rattle.rule_changes.specs.Sequences.{IsRequested}
use Rattle.rule_changes.proofs.sequences.sequences_of.Given as goal

abbrev pub invariant-loop-rule : goal.invariant-loop-rule
invariant-loop-rule l = AllByRecursion (IsRequested l.old l.new) l.found.items

abbrev pub invariant-loop-rule-2 : goal.invariant-loop-rule-2
invariant-loop-rule-2 l = AllByRecursion (IsRequested l.old l.new) l.found.items
