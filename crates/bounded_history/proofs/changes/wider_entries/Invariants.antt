use Rattle.std.proofs.Common.{◌≡◌, ◌≤◌, ◌^◌, take, length}
use Rattle.bounded_history.specs.Changes.{reduced}
use Rattle.bounded_history.proofs.changes.wider_entries.Given as goal

abbrev pub invariant-loop-entry : goal.invariant-loop-entry
invariant-loop-entry l = (l.wide.items ≡ reduced (2 ^ l.doublings) (take l.entry-index l.entries)) × (64 ≤ l.doublings → length l.wide.items ≤ 2)
