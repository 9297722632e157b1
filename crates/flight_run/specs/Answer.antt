-- What the process returns. This project's own.
use Rattle.std.specs.Prelude.{◌≡◌, ℕ, codes, Result, Ok, Err}
use Rattle.flight_run.specs.declared.fault.Fault.{Fault}
use Rattle.flight_run.specs.declared.fault.Fault.TheVariants.{File}
use Rattle.flight_run.specs.Status.{status_of}

-- what was done is printed, or standard output can't be used
abbrev pub IsSaid : {E : Type 0} → Result (Unit {0}) E → Result (Unit {0}) Fault → Type 0
IsSaid (Ok none) answer = answer ≡ Ok none
IsSaid (Err error) (Err (File name)) = name.now ≡ codes "standard output"
IsSaid (Err error) other = ⊥

-- the exit status
abbrev pub status_by : Result (Unit {0}) Fault → ℕ
status_by (Ok none) = 0
status_by (Err fault) = status_of fault
