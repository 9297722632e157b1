-- What the program does between its files and its exit: a run, and what is printed of it. This project's own.
use Rattle.std.specs.Prelude.{◌≡◌, ⊤, Result, Ok, Err}
use Rattle.lc_model.specs.Host.Outcome.{Devices}
use Rattle.lc_model.specs.Host.Promise.{Mission}
use Rattle.flight_core.specs.declared.error.Report.{Report}
use Rattle.flight_core.specs.declared.error.RunError.{RunError}
use Rattle.flight_core.specs.Promises.{Promises}
use Rattle.flight_profile.specs.Members.{OwnWasClosed}
use Rattle.flight_profile.specs.Stock.{AreOwn}
use Rattle.flight_run.specs.declared.done.Done.{Done}
use Rattle.flight_run.specs.declared.done.Done.TheVariants.{Flown}
use Rattle.flight_run.specs.declared.fault.Fault.{Fault}
use Rattle.flight_run.specs.Cause.{fault_of_run}

-- what was done, whose line is `done_line` and whose status is 0; or the fault, with its `line_of` and its `status_of`
abbrev pub outcome_of : Result Report RunError → Result Done Fault
outcome_of (Ok report) = Ok (Flown report)
outcome_of (Err error) = Err (fault_of_run error)

-- a run of this mission over these devices keeps all promises of `run`, and this is what the program makes of its result
pub record Flies (m : Mission) (d : Devices) (outcome : Result Done Fault) : Type 0 where
  pub answer : Result Report RunError
  pub promises : Promises ⊤ (AreOwn m.schedule) OwnWasClosed m d answer
  pub comes_to : outcome ≡ outcome_of answer
