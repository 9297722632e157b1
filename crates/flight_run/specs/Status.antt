-- The exit statuses of the program. This project's own.
use Rattle.std.specs.Prelude.{ℕ}
use Rattle.flight_core.specs.declared.error.RunError.{RunError}
use Rattle.flight_core.specs.declared.error.RunError.TheVariants as run
use Rattle.flight_run.specs.declared.fault.Fault.{Fault}
use Rattle.flight_run.specs.declared.fault.Fault.TheVariants.{Text, Schedule, Words, File, Run, Memory}

-- a device that failed is 3, and what the stream is at fault for is 4; what is refused before it is said as its own fault
abbrev stopped : RunError → ℕ
stopped run.Read = 3
stopped (run.Write sent) = 3
stopped error = 4

-- a text or a schedule is refused: 1; the words are no command: 2; a file or a device: 3; the stream: 4; no memory: 5
abbrev pub status_of : Fault → ℕ
status_of (Text error) = 1
status_of (Schedule error) = 1
status_of (Words error) = 2
status_of (File name) = 3
status_of (Run error) = stopped error
status_of Memory = 5
