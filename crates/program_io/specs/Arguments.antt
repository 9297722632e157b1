-- Why the system has no words for the program. This project's own.
use Rattle.std_io.specs.declared.io.kind.ErrorKind.{ErrorKind}
use Rattle.std_io.specs.declared.io.kind.ErrorKind.TheVariants as kind
use Rattle.program_io.specs.declared.arguments.ArgumentsError.{ArgumentsError}
use Rattle.program_io.specs.declared.arguments.ArgumentsError.TheVariants.{Memory, NoText}

-- want of memory, or words that are no text
abbrev pub arguments_error : ErrorKind → ArgumentsError
arguments_error kind.OutOfMemory = Memory
arguments_error rest = NoText
