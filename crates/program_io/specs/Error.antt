-- Which error a fault of a file is. This project's own.
use Rattle.std.specs.Prelude.{List, ℕ}
use Rattle.std.specs.Borrow.{Bor}
use Rattle.program_io.specs.declared.error.FileError.{FileError}
use Rattle.program_io.specs.declared.error.FileError.TheVariants as error
use Rattle.program_io.specs.declared.why.FileFault.{FileFault}
use Rattle.program_io.specs.declared.why.FileFault.TheVariants as fault

-- want of memory is no fault of a file
abbrev pub error_at : Bor (List ℕ) → FileFault → FileError
error_at name fault.Memory = error.Memory
error_at name (fault.Unusable why) = error.Unusable name why
