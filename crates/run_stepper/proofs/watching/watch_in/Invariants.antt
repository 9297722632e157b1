use Rattle.std.proofs.Common.{◌≡◌, length, []}
use Rattle.flight_core.specs.Records.{piece_size}
use Rattle.run_stepper.specs.Stepping.{GoesOn, IsAtRest, host_in}
use Rattle.run_stepper.proofs.Shown.{ShownSoFar}
use Rattle.run_stepper.proofs.watching.watch_in.Given as goal

abbrev pub invariant-loop : goal.invariant-loop
invariant-loop g l = record {
  ready : IsAtRest l.stepping;
  goes_on : GoesOn (host_in l.stepping);
  number : l.number ≡ l.counter;
  room : length l.room ≡ piece_size;
  shown : g.O.Observer.has_seen l.initial.observer l.initial.observer [] [] →
      ShownSoFar (host_in l.initial.stepping) (host_in l.stepping) (g.R.ByteSource.source l.initial.reader).rest (g.R.ByteSource.source l.reader).rest l.is_ended (g.O.Observer.has_seen l.initial.observer l.observer) l.number;
}
