-- The result of writing rows to standard output. This project's own.
use Rattle.std.specs.Prelude.{◌≡◌, Result, Ok, Err}
use Rattle.packet_rows.specs.declared.error.RowError.{RowError}
use Rattle.packet_rows.specs.declared.error.RowError.TheVariants as row
use Rattle.tool_faults.specs.Cause.{IsOfOutput}
use Rattle.tool_faults.specs.declared.fault.Fault.{Fault}
use Rattle.tool_faults.specs.declared.fault.Fault.TheVariants as fault

abbrev pub IsTaken : {T : Type 0} → Result T RowError → Result T Fault → Type 0
IsTaken (Ok written) answer = answer ≡ Ok written
IsTaken (Err error) (Ok written) = ⊥
IsTaken (Err row.Memory) (Err found) = found ≡ fault.Memory
IsTaken (Err (row.Write kind)) (Err found) = IsOfOutput kind found
