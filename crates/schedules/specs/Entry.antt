-- The entries of schedules, as in the model.
use Rattle.std.specs.Prelude.{List, map}
use Rattle.lc_model.specs.Host.Schedule.{ScheduleEntry}
use Rattle.lc_model.specs.Host.Schedule as schedule
use Rattle.schedules.specs.declared.entry.Entry.{Entry}
use Rattle.schedules.specs.declared.entry.Entry.TheVariants.{Sample, Housekeeping}

-- The program's entry as one of the model.
abbrev pub entry_of : Entry → ScheduleEntry
entry_of (Sample first last ages) = schedule.Sample first last ages
entry_of Housekeeping = schedule.Housekeeping

-- The entries of a slot.
abbrev pub entries_of : List Entry → List ScheduleEntry
entries_of entries = map entry_of entries
