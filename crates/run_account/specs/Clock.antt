-- The time that passes over the records of a run, in 1/65,536 s. This project's own.
use Rattle.std.specs.Prelude.{ℕ, ◌+◌, ◌*◌, ◌-◌, ◌==◌, ◌&&◌, Bool, true, false, List, length, max, min, nat_le, nat_lt, get_or, Option, Some, None}
use Rattle.flight_core.specs.Records.{most_counted}
use Rattle.lc_model.specs.Host.Stream.{header_size}
use Rattle.run_stepper.specs.Trace.{moment_in}
use Rattle.run_account.specs.declared.clock.RunClock.{RunClock}

-- counts and times stop at the most that 64 bits hold
abbrev pub capped : ℕ → ℕ
capped n = min n most_counted

abbrev pub add : ℕ → ℕ → ℕ
add n more = capped (n + more)

-- one more where it is so
abbrev pub more_if : Bool → ℕ → ℕ
more_if false n = n
more_if true n = add n 1

-- a second
abbrev pub second : ℕ
second = 65536

-- the time of a record
abbrev pub time_of : List ℕ → ℕ
time_of bytes = (moment_in bytes).seconds * 65536 + (moment_in bytes).subseconds

-- a record of kind 2 is a tick
abbrev pub is_tick : List ℕ → Bool
is_tick bytes = nat_le header_size (length bytes) && (get_or bytes 0 0 == 2)

-- how much later a record is than the last one
abbrev pub forward : Option ℕ → ℕ → ℕ
forward None now = 0
forward (Some last) now = now - last

-- a step back
abbrev pub is_back : Option ℕ → ℕ → Bool
is_back None now = false
is_back (Some last) now = nat_lt now last

-- the time between two ticks
abbrev pub tick_between : Option ℕ → ℕ → ℕ
tick_between None passed = second
tick_between (Some before) passed = max second (passed - before)

abbrev pub ticked_if : Bool → RunClock → RunClock
ticked_if false clock = clock
ticked_if true clock = record clock { ticked = Some clock.passed; tick = tick_between clock.ticked clock.passed }

abbrev pub first_clock : RunClock
first_clock = record { last = None; passed = 0; ticked = None; tick = second }

-- the clock after one more record
abbrev pub clock_after : List ℕ → RunClock → RunClock
clock_after bytes clock =
    ticked_if (is_tick bytes) (record clock { last = Some (time_of bytes); passed = add clock.passed (forward clock.last (time_of bytes)) })
