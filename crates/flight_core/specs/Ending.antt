-- The result of `run` as an `Ending`.
use Rattle.std.specs.Prelude.{Result, Ok, Err}
use Rattle.lc_model.specs.Host.Outcome.{Ending, Complete, Uncompiled, MetNoRecord, MetTheEnd, FailedToRead, FailedToWrite, ReachedTheBound, NoMemory}
use Rattle.rpn_compiler.specs.Fault as fault
use Rattle.flight_core.specs.declared.error.Report.{Report}
use Rattle.flight_core.specs.declared.error.RunError.{RunError}
use Rattle.flight_core.specs.declared.error.RunError.TheVariants as error

-- Each result of `run` as its ending.
abbrev pub ending_of : Result Report RunError → Ending
ending_of (Ok report) = Complete report.records report.bytes
ending_of (Err (error.Compile text refusal)) = Uncompiled text (fault.refusal_of refusal)
ending_of (Err (error.BadRecord n)) = MetNoRecord n
ending_of (Err (error.Truncated n)) = MetTheEnd n
ending_of (Err error.Read) = FailedToRead
ending_of (Err (error.Write sent)) = FailedToWrite sent
ending_of (Err error.ReadBound) = ReachedTheBound
ending_of (Err error.Memory) = NoMemory
