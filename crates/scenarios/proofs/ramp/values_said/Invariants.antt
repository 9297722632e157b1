-- What is left of the values says what all of them say.
use Rattle.scenarios.specs.Ramp.{values_said}
use Rattle.scenarios.proofs.Values.{Running}
use Rattle.scenarios.proofs.ramp.values_said.Given as goal

abbrev pub invariant-loop : goal.invariant-loop
invariant-loop l = Running l.n l.ramp (values_said l.count l.n l.ramp l.ramp.from l.fn.start) l.counter l.count l.value l.said
