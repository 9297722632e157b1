-- What is left says what all changes say.
use Rattle.std.proofs.Common.{◌≡◌, drop}
use Rattle.scenarios.specs.Rules.{force_at, force_behind}
use Rattle.scenarios.proofs.force.force_at.Given as goal

abbrev pub invariant-loop-change : goal.invariant-loop-change
invariant-loop-change l = force_behind l.text (drop l.change-index l.changes) l.line ≡ force_at l.changes l.line
