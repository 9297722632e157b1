-- The exit status for each fault. This project's own.
use Rattle.std.specs.Prelude.{ℕ, Result, Ok, Err}
use Rattle.flight_core.specs.declared.error.RunError.{RunError}
use Rattle.flight_core.specs.declared.error.RunError.TheVariants as run
use Rattle.tool_faults.specs.declared.fault.Fault.{Fault}
use Rattle.tool_faults.specs.declared.fault.Fault.TheVariants.{Words, Replaced, NoText, Value, Table, Early, Stream, TextMissing, TextNotGiven, Packets, Lines, Rules, Differs, Unmet, Refused, Judgement, Warned, Reported, NoShutdown, Run, File, Gone, Memory, NotSampled}

-- the status of a stopped run: a refused rule text, a failed device, the stream, or memory
abbrev pub stopped : RunError → ℕ
stopped (run.Compile text error) = 1
stopped (run.BadRecord n) = 4
stopped (run.Truncated n) = 4
stopped run.Read = 3
stopped (run.Write sent) = 3
stopped run.ReadBound = 4
stopped run.Memory = 5

-- 1 a fault, a refusal, a warning in a strict command, or a client that left without a request to shut down; 2 words that are not a
-- command; 3 files and devices; 4 an early end, or a text that isn't given; 5 memory; 6 nothing was sampled; 0 if the reader of the output
-- closed it; the worst status of several trials
abbrev pub status_of : Fault → ℕ
status_of (Words error) = 2
status_of (Replaced option advice) = 2
status_of NoText = 2
status_of (Value option word advice) = 2
status_of Table = 1
status_of Early = 4
status_of (Stream name error) = stopped error
status_of (TextMissing name n text) = 4
status_of (TextNotGiven name n text) = 4
status_of (Packets name number left) = 4
status_of (Lines page) = 1
status_of (Rules name error) = 1
status_of Differs = 1
status_of Unmet = 1
status_of Refused = 1
status_of (Judgement name error) = 1
status_of Warned = 1
status_of (Reported status) = status
status_of NoShutdown = 1
status_of (Run error) = stopped error
status_of (File name why) = 3
status_of Gone = 0
status_of Memory = 5
status_of NotSampled = 6

-- the status of a command's result
abbrev pub status_by : Result (Unit {0}) Fault → ℕ
status_by (Ok none) = 0
status_by (Err fault) = status_of fault
