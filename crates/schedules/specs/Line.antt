-- The parts of a schedule's line. This project's own.
use Rattle.std.specs.Prelude.{ℕ, Bool, ◌&&◌, List, bytes_eq, codes, Option, Some, None, if◌then◌else◌}
use Rattle.lc_model.specs.Command.{is_range}
use Rattle.lc_model.specs.Host.Schedule.{ScheduleEntry, Sample}
use Rattle.schedules.specs.declared.entry.Entry.{Entry}
use Rattle.schedules.specs.Entry.{entry_of}

-- The sample entry, if the line's second word is `sample` and the range is valid.
abbrev pub sample_said : List ℕ → (first last : ℕ) → Bool → Option ScheduleEntry
sample_said verb first last ages = if bytes_eq verb (codes "sample") && is_range first last then Some (Sample first last ages) else None

-- A slot's number with its entry, as in the model.
abbrev pub placed_of : ℕ × Entry → ℕ × ScheduleEntry
placed_of (slot, entry) = (slot, entry_of entry)
