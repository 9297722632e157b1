-- A line at which a run is probed. This project's own.
use Rattle.std.specs.Prelude.{ℕ, List, Option}

-- its number, from 1; the length of the stream before it; and the rule that it names, if it names one
pub record ProbedLine : Type 0 where
  pub n : ℕ
  pub place : ℕ
  pub rule : Option (List ℕ)
