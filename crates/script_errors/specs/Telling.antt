-- Messages about a refused line: the number of the message, and its place on the line. This project's own.
use Rattle.std.specs.Prelude.{◌≡◌, ℕ, ◌≤◌, List, length, ⊤, IsSomeAnd, Result, Ok, Err}
use Rattle.lc_model.specs.Host.Schedule.{Schedule}
use Rattle.lc_model.specs.Host.ScheduleText.{ScheduleFault}
use Rattle.diagnostics.specs.Line.{line_number}
use Rattle.stream_script.specs.declared.error.Reason.{Reason}
use Rattle.stream_script.specs.declared.error.Reason.TheVariants.{UnknownStatement, BadNumber, BadBytes, UnknownKind, UnknownType, OutsidePacket, BadBody, LongName}
use Rattle.diagnostics.specs.Message.{first_place}
use Rattle.diagnostics.specs.declared.message.Message.{Message}
use Rattle.script_errors.specs.declared.refusal.Refusal.{Refusal}
use Rattle.script_errors.specs.declared.refusal.Refusal.TheVariants.{Told, Memory}

-- a place on the line with this number; no line has the number 0, which stands for the text's end
pub record IsOnLine (text : List ℕ) (line at : ℕ) : Type 0 where
  pub within : at ≤ length text
  pub on : 1 ≤ line → line_number text at ≡ line
  pub end : line ≡ 0 → at ≡ length text

-- the message has this number, and its place is on this line
pub record IsOn (text : List ℕ) (code line : ℕ) (message : Message) : Type 0 where
  pub told : message.code ≡ code
  pub place : IsSomeAnd (first_place message) (IsOnLine text line)

-- ---- schedules

-- the message reports the reader's fault: the fault's number, on its line
abbrev pub TellsFault : List ℕ → Result Schedule ScheduleFault → Message → Type 0
TellsFault text (Ok schedule) message = ⊥
TellsFault text (Err fault) message = IsOn text fault.code fault.line message

-- if a schedule is refused, the message reports the reader's fault, unless memory ran out
abbrev pub IsScheduleRefusal : List ℕ → Result Schedule ScheduleFault → Refusal → Type 0
IsScheduleRefusal text said (Told message) = TellsFault text said message
IsScheduleRefusal text said Memory = ⊤

-- ---- scripts

-- the number of the message for each reason to refuse a line of a script
abbrev pub reason_code : Reason → ℕ
reason_code UnknownStatement = 161
reason_code BadNumber = 162
reason_code BadBytes = 163
reason_code UnknownKind = 164
reason_code UnknownType = 165
reason_code OutsidePacket = 166
reason_code BadBody = 167
reason_code LongName = 168
