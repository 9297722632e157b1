-- The file can't be read, or its text is refused.
use Rattle.std.proofs.Common.{subst}
use Rattle.flight_run.specs.Stops.{IsScheduleRefused}
use Rattle.program_io.proofs.Stopping.{passes}
use Rattle.flight_run.proofs.Stopping.{lifted, schedule_stops}
use Rattle.flight_run.proofs.running.schedule_in.Goals as goal

pub returns-in_err-text-clause-stops : goal.returns-in_err-text-clause-stops
returns-in_err-text-clause-stops g c = passes _ _ _ c.from_residual.ensures.1 (lifted _ _ _ c.in_err-text.field-0.0 c.in_err-text.ensures.stops)

pub returns-in_err-schedule-clause-stops : goal.returns-in_err-schedule-clause-stops
returns-in_err-schedule-clause-stops g c =
    passes _ _ _ c.from_residual-in_err-schedule.ensures.1
    (schedule_stops c.args.name.now c.in_ok-text.text.items _ _ c.in_err-schedule.field-0.0 c.in_ok-text.ensures.read
    (subst (λ text. IsScheduleRefused text c.in_err-schedule.field-0.0) c.as_slice.ensures.value c.in_err-schedule.ensures.refused))
