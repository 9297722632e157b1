-- What is found and left is what the script expects.
use Rattle.std.proofs.Common.{◌≡◌, ◌+◌, ◌≤◌, length, map}
use Rattle.text_lines.specs.Lines.{lines_in, most_lines}
use Rattle.scenario_trial.specs.Reading.{expectations_in, lines_expected, placed_of}
use Rattle.scenario_trial.proofs.expectation_lines.read_lines.Given as goal

abbrev pub invariant-loop-left : goal.invariant-loop-left
invariant-loop-left l = record {
  says : lines_expected (map placed_of l.found.items) (l.n + 1) (lines_in l.left) ≡ expectations_in l.script;
  counted : l.n + most_lines l.left ≤ length l.script + 1;
}

abbrev pub decreases-loop-left : goal.decreases-loop-left
decreases-loop-left l = most_lines l.left
