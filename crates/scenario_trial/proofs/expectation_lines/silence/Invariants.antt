-- The lines so far, and those that are left, are the quiet script.
use Rattle.std.proofs.Common.{◌≡◌, ◌++◌, map}
use Rattle.std.specs.List.{join_with_byte}
use Rattle.text_lines.specs.Lines.{lines_in, most_lines}
use Rattle.scenario_trial.specs.Reading.{silenced_in, silenced_line}
use Rattle.scenario_trial.proofs.expectation_lines.silence.Given as goal

abbrev pub invariant-loop-left : goal.invariant-loop-left
invariant-loop-left l = l.quiet.items ++ join_with_byte 10 (map silenced_line (lines_in l.left)) ≡ silenced_in l.script

abbrev pub decreases-loop-left : goal.decreases-loop-left
decreases-loop-left l = most_lines l.left
