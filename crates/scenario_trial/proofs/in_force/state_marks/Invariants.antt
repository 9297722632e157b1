-- The marks so far, and those of what is left, are the script's.
use Rattle.std.proofs.Common.{◌≡◌, ◌++◌, map}
use Rattle.lc_model.specs.Host.ScheduleText.{lines_of}
use Rattle.text_lines.specs.Lines.{lines_in, most_lines}
use Rattle.scenario_trial.specs.Settled.{sets_state}
use Rattle.scenario_trial.proofs.in_force.state_marks.Given as goal

abbrev pub invariant-loop-left : goal.invariant-loop-left
invariant-loop-left l = l.marks.items ++ map sets_state (lines_in l.left) ≡ map sets_state (lines_of l.script)

abbrev pub decreases-loop-left : goal.decreases-loop-left
decreases-loop-left l = most_lines l.left
