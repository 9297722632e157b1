use Rattle.std.proofs.Common.{◌≡◌, drop}
use Rattle.std.specs.List.{list_any}
use Rattle.rule_changes.specs.RuleChanges.{is_of}
use Rattle.rule_changes.proofs.matching.is_listed.Given as goal

abbrev pub invariant-loop-change : goal.invariant-loop-change
invariant-loop-change l = list_any (is_of l.number) l.changes ≡ list_any (is_of l.number) (drop l.change-index l.changes)
