-- The first words of a line are enough to read it. This project's own.
use Rattle.std.specs.Prelude.{◌≡◌, ℕ, List}
use Rattle.lc_model.specs.Host.ScheduleText.{entry_in, slots_in}

-- The first words of a line, `some`, give the same as all its words.
pub record SaySame (some all : List (List ℕ)) : Type 0 where
  pub slots : slots_in some ≡ slots_in all
  pub entry : entry_in some ≡ entry_in all
