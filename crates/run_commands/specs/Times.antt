-- The times that a listing prints, and those of records. This project's own.
use Rattle.std.specs.Prelude.{ℕ, ◌+◌, ◌*◌, ◌/◌, ◌≤◌}

-- the 1/100,000 s that a listing prints of a time in 1/65,536 s, rounded down
abbrev pub printed : ℕ → ℕ
printed ticks = ticks * 100_000 / 65_536

-- this is the least time at which a listing prints at least these seconds and 1/100,000 s
abbrev pub IsLeast : (seconds parts least : ℕ) → Type 0
IsLeast seconds parts least = (ticks : ℕ) → (least ≤ ticks → seconds * 100_000 + parts ≤ printed ticks) × (seconds * 100_000 + parts ≤ printed ticks → least ≤ ticks)
