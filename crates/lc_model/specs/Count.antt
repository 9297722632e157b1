-- 16-bit counts. This project's own.
use Rattle.std.specs.Prelude.{ℕ, min}

-- The greatest 16-bit number.
abbrev pub last_count : ℕ
last_count = 65535

-- The count, capped at 65,535.
abbrev pub capped : ℕ → ℕ
capped count = min count last_count
