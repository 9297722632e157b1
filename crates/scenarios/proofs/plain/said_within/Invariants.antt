-- What is left to say says what all of it says.
use Rattle.text_lines.specs.Lines.{texts_of}
use Rattle.scenarios.specs.Plain.{most_steps, said_within}
use Rattle.scenarios.proofs.Steps.{Stepping}
use Rattle.scenarios.proofs.plain.said_within.Given as goal

abbrev pub invariant-loop : goal.invariant-loop
invariant-loop l = Stepping l.rules l.changes (texts_of l.lines) (said_within most_steps l.rules l.changes (texts_of l.lines) l.fn.start) l.counter most_steps l.going
