-- Answers of a writer whose reader may go. This project's own.
use Rattle.std.specs.Prelude.{◌≢◌, ⊤, Result, Ok, Err}
use Rattle.std.specs.IoError.{error_kind}
use Rattle.std_io.specs.declared.io.error.Error.{Error}
use Rattle.std_io.specs.declared.io.kind.ErrorKind.TheVariants.{BrokenPipe}

-- it does not say that the reader has gone
abbrev pub IsNotGone : {Taken : Type 0} → Result Taken Error → Type 0
IsNotGone (Ok taken) = ⊤
IsNotGone (Err error) = error_kind error ≢ BrokenPipe
