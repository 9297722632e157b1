use Rattle.std.proofs.Common.{ℕ, ◌≤◌, ◌<◌}
use Rattle.bounded_history.specs.Telling.{count_at}
use Rattle.bounded_history.proofs.pool.Pool.longest.Given as goal

abbrev pub invariant-loop-number : goal.invariant-loop-number
invariant-loop-number l =
    (l.most ≤ count_at l.longest l.self.lists.items)
    × ((other : ℕ) → other < l.number → count_at other l.self.lists.items ≤ l.most)
    × ((other : ℕ) → other < l.longest → count_at other l.self.lists.items < l.most)
