-- The errors of schedule texts as faults of the model. This project's own.
use Rattle.std.specs.Prelude.{◌≡◌, ℕ, Option, Some, None, Result, Err, ⊤}
use Rattle.lc_model.specs.Host.Schedule.{Schedule}
use Rattle.lc_model.specs.Host.ScheduleText.{ScheduleFault, bad_line, too_many_slots, too_many_entries}
use Rattle.schedules.specs.declared.error.ScheduleError.{ScheduleError}
use Rattle.schedules.specs.declared.error.ScheduleError.TheVariants.{BadLine, TooManySlots, TooManyEntries, Memory}

-- The fault of an error; `None` for lack of memory.
abbrev pub fault_of : ScheduleError → Option ScheduleFault
fault_of (BadLine line) = Some (record { code = bad_line; line = line })
fault_of (TooManySlots line) = Some (record { code = too_many_slots; line = line })
fault_of (TooManyEntries line) = Some (record { code = too_many_entries; line = line })
fault_of Memory = None

-- The number of a refusal, 131 to 133; `None` for lack of memory.
abbrev pub error_code : ScheduleError → Option ℕ
error_code (BadLine line) = Some bad_line
error_code (TooManySlots line) = Some too_many_slots
error_code (TooManyEntries line) = Some too_many_entries
error_code Memory = None

-- The model's result is this fault; without a fault (lack of memory) nothing is claimed.
abbrev pub IsFaultOr : Option ScheduleFault → Result Schedule ScheduleFault → Type 0
IsFaultOr (Some fault) said = said ≡ Err fault
IsFaultOr None said = ⊤

-- The model's result is the error's fault; for lack of memory nothing is claimed.
abbrev pub IsRefused : Result Schedule ScheduleFault → ScheduleError → Type 0
IsRefused said error = IsFaultOr (fault_of error) said
