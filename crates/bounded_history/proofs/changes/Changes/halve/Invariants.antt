use Rattle.std.proofs.Common.{ℕ, List, ◌≡◌, ◌≤◌, ◌<◌, ◌^◌, length}
use Rattle.bounded_history.specs.declared.entry.Entry.{Entry}
use Rattle.bounded_history.specs.Changes.{changes, reduced}
use Rattle.bounded_history.specs.Telling.{Tells}
use Rattle.bounded_history.proofs.changes.Changes.halve.Given as goal

abbrev pub invariant-loop-doublings : goal.invariant-loop-doublings
invariant-loop-doublings l =
    (l.self.doublings ≡ l._doublings) × (l.initial.self.doublings ≤ l._doublings)
    × ((told : List Entry) → Tells l.initial.self told → Tells l.self told)
    × ((told : List Entry) → Tells l.initial.self told → (fewer : ℕ) → l.initial.self.doublings ≤ fewer → fewer < l._doublings →
    l.most < length (reduced (2 ^ fewer) (changes told)))
