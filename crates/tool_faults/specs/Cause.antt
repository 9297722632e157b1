-- The fault for each failure. This project's own.
use Rattle.std.specs.Prelude.{◌≡◌, ⊤, codes, List, ℕ, Option, Some, None, Result, Ok, Err}
use Rattle.std.specs.Borrow.{Bor}
use Rattle.std.specs.IoError.{error_kind}
use Rattle.std_io.specs.declared.io.error.Error.{Error}
use Rattle.std_io.specs.declared.io.kind.ErrorKind.{ErrorKind}
use Rattle.std_io.specs.declared.io.kind.ErrorKind.TheVariants as kind
use Rattle.program_io.specs.Why.{why_of}
use Rattle.program_io.specs.declared.why.Why.{Why}
use Rattle.program_io.specs.declared.why.Why.TheVariants as why
use Rattle.program_io.specs.declared.error.FileError.{FileError}
use Rattle.program_io.specs.declared.error.FileError.TheVariants as file
use Rattle.program_io.specs.declared.arguments.ArgumentsError.{ArgumentsError}
use Rattle.program_io.specs.declared.arguments.ArgumentsError.TheVariants as arguments
use Rattle.script_errors.specs.declared.refusal.Refusal.{Refusal}
use Rattle.script_errors.specs.declared.refusal.Refusal.TheVariants as refusal
use Rattle.stream_script.specs.declared.error.ScriptError.{ScriptError}
use Rattle.stream_script.specs.declared.error.ScriptError.TheVariants as script
use Rattle.analysis_listing.specs.declared.error.ListingError.{ListingError}
use Rattle.analysis_listing.specs.declared.error.ListingError.TheVariants as judgement
use Rattle.tool_faults.specs.declared.fault.Fault.{Fault}
use Rattle.tool_faults.specs.declared.fault.Fault.TheVariants as fault

-- the fault for a file; out of memory is one fault, whatever ran out
abbrev pub fault_of_file : FileError → Fault
fault_of_file file.Memory = fault.Memory
fault_of_file (file.Unusable name why) = fault.File name why

-- the fault for the words of a command line that can't be read
abbrev pub fault_of_arguments : ArgumentsError → Fault
fault_of_arguments arguments.Memory = fault.Memory
fault_of_arguments arguments.NoText = fault.NoText

-- the fault has a message about a text, or there was no memory for it
abbrev pub IsToldFault : Fault → Type 0
IsToldFault (fault.Lines page) = ⊤
IsToldFault fault.Memory = ⊤
IsToldFault other = ⊥

-- the fault for a refused schedule or script
abbrev pub IsOfRefusal : Refusal → Fault → Type 0
IsOfRefusal refusal.Memory found = found ≡ fault.Memory
IsOfRefusal (refusal.Told message) found = IsToldFault found

-- the fault for a refused script
abbrev pub IsOfScript : ScriptError → Fault → Type 0
IsOfScript script.Memory found = found ≡ fault.Memory
IsOfScript (script.Line n reason) found = IsToldFault found

-- the fault for a judgement that was written to memory
abbrev pub fault_of_judgement : Bor (List ℕ) → ListingError → Fault
fault_of_judgement name judgement.Memory = fault.Memory
fault_of_judgement name judgement.Write = fault.Memory
fault_of_judgement name error = fault.Judgement name error

-- the file or device with this name can't be used, for this reason
abbrev pub IsUnusable : List ℕ → Why → Fault → Type 0
IsUnusable of reason (fault.File name found) = (name.now ≡ of) × (found ≡ reason)
IsUnusable of reason other = ⊥

-- the fault for standard input, by the kind of its error
abbrev pub IsOfInput : ErrorKind → Fault → Type 0
IsOfInput kind.OutOfMemory found = found ≡ fault.Memory
IsOfInput rest found = IsUnusable (codes "standard input") (why_of rest) found

-- the fault for standard output, by the kind of its error: if its reader closed it, the command ends silently
abbrev pub IsOfOutput : ErrorKind → Fault → Type 0
IsOfOutput kind.OutOfMemory found = found ≡ fault.Memory
IsOfOutput kind.BrokenPipe found = found ≡ fault.Gone
IsOfOutput rest found = IsUnusable (codes "standard output") (why_of rest) found

-- the same if the kind may not be known
abbrev pub IsOfWrite : Option ErrorKind → Fault → Type 0
IsOfWrite (Some kind) found = IsOfOutput kind found
IsOfWrite None found = IsUnusable (codes "standard output") why.Failed found

-- the same for the result of a listing
abbrev pub IsListed : Result (Unit {0}) Error → Result (Unit {0}) Fault → Type 0
IsListed (Ok none) answer = answer ≡ Ok none
IsListed (Err error) (Ok none) = ⊥
IsListed (Err error) (Err found) = IsOfOutput (error_kind error) found
