-- The warnings so far, and those of what is left, are the scenario's.
use Rattle.std.proofs.Common.{◌≡◌, ◌+◌, ◌≤◌, ◌++◌, length}
use Rattle.text_lines.specs.Lines.{lines_in, most_lines}
use Rattle.scenario_trial.specs.Warned.{state_warnings, state_warnings_from}
use Rattle.scenario_trial.proofs.warning.state_warnings.Given as goal

abbrev pub invariant-loop-left : goal.invariant-loop-left
invariant-loop-left l = record {
  found : l.found.items ++ state_warnings_from l.texts l.declared l.script.plain.lines.items l.script.changes.items (l.n + 1) (lines_in l.left)
      ≡ state_warnings l.texts l.declared l.script.plain.lines.items l.script.changes.items l.scenario;
  counted : l.n + most_lines l.left ≤ length l.scenario + 1;
}

abbrev pub decreases-loop-left : goal.decreases-loop-left
decreases-loop-left l = most_lines l.left
