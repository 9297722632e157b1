-- The next record of a stream. This project's own format.
use Rattle.std.specs.Prelude.{ℕ}
use Rattle.lc_model.specs.Host.Stream.{StreamEntry}

-- A record, or the number of a bad one.
pub data Answer : Type 0 where
  Entry : (entry : StreamEntry) → Answer
  Bad : (number : ℕ) → Answer
