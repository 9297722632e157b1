-- The numbers of a run's errors. This project's own.
use Rattle.std.specs.Prelude.{ℕ, Option, Some, None}
use Rattle.flight_core.specs.declared.error.RunError.{RunError}
use Rattle.flight_core.specs.declared.error.RunError.TheVariants.{Compile, BadRecord, Truncated, Read, Write, ReadBound, Memory}

-- The error's number; lack of memory has none, and a refused text has the compiler's.
abbrev pub error_code : RunError → Option ℕ
error_code (Compile text error) = None
error_code (BadRecord n) = Some 141
error_code (Truncated n) = Some 142
error_code Read = Some 143
error_code (Write sent) = Some 144
error_code ReadBound = Some 145
error_code Memory = None
