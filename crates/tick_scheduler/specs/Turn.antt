-- A scheduler between two ticks. This project's own, after the cFS scheduler.
use Rattle.std.specs.Prelude.{ℕ, Option}
use Rattle.lc_model.specs.Host.Schedule.{Schedule}

-- The scheduler's schedule, the slot of its next tick, and the seat that it holds.
pub record Turn : Type 0 where
  pub schedule : Schedule
  pub slot : ℕ
  pub seat : Option ℕ
