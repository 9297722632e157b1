-- Where a command stops that does not succeed, by the calls on files that it made. This project's own.
use Rattle.std.specs.Prelude.{ℕ, List, Option, Some, ⊤}
use Rattle.lc_model.specs.Host.ScheduleText.{schedule_in}
use Rattle.lc_model.specs.Tables.Compiling.{IsRefused}
use Rattle.lc_model.specs.Tables.InForce.{limits}
use Rattle.rpn_compiler.specs.declared.error.CompileError.{CompileError}
use Rattle.rpn_compiler.specs.Fault.{Refuses}
use Rattle.schedules.specs.declared.error.ScheduleError.{ScheduleError}
use Rattle.schedules.specs.Error as schedule
use Rattle.program_io.specs.FileCall.{FileCall, Reads}
use Rattle.program_io.specs.Stops.{EndsWith, HasFailedAt}
use Rattle.program_io.specs.Stops as files
use Rattle.flight_run.specs.declared.fault.Fault.{Fault}
use Rattle.flight_run.specs.declared.fault.Fault.TheVariants.{Text, Schedule, File, Memory}

-- a rule text is refused for this error, and a schedule
abbrev pub IsTextRefused : List ℕ → CompileError → Type 0
IsTextRefused text error = Refuses (IsRefused limits text) error

abbrev pub IsScheduleRefused : List ℕ → ScheduleError → Type 0
IsScheduleRefused text error = schedule.IsRefused (schedule_in text) error

-- a text was read that is refused for this error
abbrev pub HasRefusedText : CompileError → FileCall → Type 0
HasRefusedText error (Reads name (Some text)) = IsTextRefused text error
HasRefusedText error call = ⊥

abbrev pub HasRefusedSchedule : ScheduleError → FileCall → Type 0
HasRefusedSchedule error (Reads name (Some text)) = IsScheduleRefused text error
HasRefusedSchedule error call = ⊥

-- the fault is that of the last call, or there was no memory
abbrev pub IsFaultOf : List FileCall → Fault → Type 0
IsFaultOf calls (Text error) = EndsWith (HasRefusedText error) calls
IsFaultOf calls (Schedule error) = EndsWith (HasRefusedSchedule error) calls
IsFaultOf calls (File name) = EndsWith (HasFailedAt name.now) calls
IsFaultOf calls Memory = ⊤
IsFaultOf calls fault = ⊥

-- of the calls in this order the first were made, and the last of them is at fault
abbrev pub StopsIn : List FileCall → (before now : Option (List FileCall)) → Fault → Type 0
StopsIn order before now fault = files.StopsIn Fault IsFaultOf order before now fault
