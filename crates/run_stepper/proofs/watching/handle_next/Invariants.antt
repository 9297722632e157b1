use Rattle.std.proofs.Common.{◌≡◌, ◌+◌, ◌-◌, length, if◌then◌else◌}
use Rattle.flight_core.specs.Records.{piece_size}
use Rattle.run_stepper.specs.Stepping.{GoesOn, IsAtRest, host_in}
use Rattle.run_stepper.proofs.Pieces.{HasFed}
use Rattle.run_stepper.proofs.watching.handle_next.Given as goal

abbrev pub invariant-loop-is_ended : goal.invariant-loop-is_ended
invariant-loop-is_ended g l = record {
  ready : IsAtRest l.stepping;
  goes_on : GoesOn (host_in l.stepping);
  room : length l.room ≡ piece_size;
  came : HasFed g.O.Observer.has_seen (g.R.ByteSource.source l.initial.reader).rest (g.R.ByteSource.source l.reader).rest l.initial.is_ended l.is_ended l.initial.observer l.observer
      (host_in l.initial.stepping) (host_in l.stepping);
}

abbrev pub decreases-loop-is_ended : goal.decreases-loop-is_ended
decreases-loop-is_ended g l = (if l.is_ended then 0 else 1) + (73739 - length (host_in l.stepping).held.bytes)
