-- What `check` comes to. This project's own.
use Rattle.std.specs.Prelude.{Bool, true, ◌||◌, ◌&&◌, if◌then◌else◌, nat_lt, Result, Ok, Err}
use Rattle.tool_faults.specs.declared.fault.Fault.{Fault}
use Rattle.tool_faults.specs.declared.fault.Fault.TheVariants as fault
use Rattle.check_command.specs.declared.totals.CheckResult.{CheckResult}
use Rattle.check_command.specs.declared.totals.CheckResult.TheVariants.{Refused, Warnings}
use Rattle.check_command.specs.declared.totals.Totals.{Totals}

-- the total of several texts, with one more
abbrev pub counted : Totals → CheckResult → Totals
counted totals Refused = record { is_refused = true; is_warned = totals.is_warned }
counted totals (Warnings count) = record { is_refused = totals.is_refused; is_warned = totals.is_warned || nat_lt 0 count }

-- a text that doesn't compile is a fault, and so is a warning, where that is asked for
abbrev pub answer_of : Totals → (is_strict : Bool) → Result (Unit {0}) Fault
answer_of totals is_strict =
    if totals.is_refused then Err fault.Refused
    else (if is_strict && totals.is_warned then Err fault.Warned else Ok tt)
