-- How a stream or a file of packets ends, for commands whose listing doesn't say it. This project's own.
use Rattle.std.specs.Prelude.{ℕ, zero, suc, List, Result, Ok, Err}
use Rattle.std.specs.Borrow.{Bor}
use Rattle.stream_script.specs.declared.front.Front.{Front}
use Rattle.stream_script.specs.declared.front.Front.TheVariants.{End, Record, NoRecord, Cut}
use Rattle.flight_core.specs.declared.error.RunError.TheVariants as run
use Rattle.tool_faults.specs.declared.fault.Fault.{Fault}
use Rattle.tool_faults.specs.declared.fault.Fault.TheVariants as fault

-- the end of a stream in a file with this name, if this is in the place of record `n`
abbrev pub answer_where : Bor (List ℕ) → Front → ℕ → Result (Unit {0}) Fault
answer_where name End n = Ok tt
answer_where name (Record kind size) n = Err (fault.Stream name (run.Truncated n))
answer_where name NoRecord n = Err (fault.Stream name (run.BadRecord n))
answer_where name Cut n = Err (fault.Stream name (run.Truncated n))

-- the end of a file of packets with this name, with a number of bytes after the last packet
abbrev pub answer_behind_packets : Bor (List ℕ) → (number left : ℕ) → Result (Unit {0}) Fault
answer_behind_packets name number zero = Ok tt
answer_behind_packets name number (suc left) = Err (fault.Packets name number (suc left))
