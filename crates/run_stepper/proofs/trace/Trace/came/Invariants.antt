use Rattle.std.proofs.Common.{◌≡◌, ◌++◌, drop}
use Rattle.run_stepper.specs.Trace.{arrived_from}
use Rattle.run_stepper.proofs.trace.Trace.came.Given as goal

-- those of the records that are left come behind those so far
abbrev pub invariant-loop-place : goal.invariant-loop-place
invariant-loop-place l = l.came.items ++ arrived_from l.place (drop l.place l.self.parts) ≡ arrived_from 0 l.self.parts
