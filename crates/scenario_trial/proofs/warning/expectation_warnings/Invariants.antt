-- Those so far, and those of the rest, are all of them.
use Rattle.std.proofs.Common.{◌≡◌, ◌++◌, drop}
use Rattle.scenario_trial.specs.Warned.{expectation_warnings}
use Rattle.scenario_trial.proofs.warning.expectation_warnings.Given as goal

abbrev pub invariant-loop-one : goal.invariant-loop-one
invariant-loop-one l =
    l.found.items ++ expectation_warnings l.texts l.declared l.plain.lines.items l.trace.parts (drop l.one-index l.judged) ≡ expectation_warnings l.texts l.declared l.plain.lines.items l.trace.parts l.judged
