-- The lines so far, and those of what is left, are the scenario's.
use Rattle.std.proofs.Common.{◌≡◌, ◌++◌}
use Rattle.lc_model.specs.Host.ScheduleText.{lines_of}
use Rattle.text_lines.specs.Lines.{lines_in, most_lines, texts_of}
use Rattle.scenarios.proofs.plain.lines_of.Given as goal

abbrev pub invariant-loop-left : goal.invariant-loop-left
invariant-loop-left l = texts_of l.lines.items ++ lines_in l.left ≡ lines_of l.scenario

abbrev pub decreases-loop-left : goal.decreases-loop-left
decreases-loop-left l = most_lines l.left
