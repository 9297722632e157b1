use Rattle.std.proofs.Common.{length}
use Rattle.run_stepper.proofs.Arriving.{Arriving}
use Rattle.run_stepper.proofs.trace.push_packets.Given as goal

abbrev pub invariant-loop-packet : goal.invariant-loop-packet
invariant-loop-packet l = Arriving l.fn.place l.fn.led l.fn.came.items l.came.items l.rest

abbrev pub decreases-loop-packet : goal.decreases-loop-packet
decreases-loop-packet l = length l.rest
