use Rattle.std.proofs.Common.{◌≡◌, drop}
use Rattle.std.specs.List.{list_any}
use Rattle.rule_changes.specs.RuleChanges.{reaches}
use Rattle.rule_changes.proofs.rewording.is_reached.Given as goal

abbrev pub invariant-loop-other : goal.invariant-loop-other
invariant-loop-other l = list_any (reaches l.term) l.terms ≡ list_any (reaches l.term) (drop l.other-index l.terms)
