-- What is known and left says what the text says.
use Rattle.std.proofs.Common.{◌≡◌, ◌+◌, ◌≤◌, length}
use Rattle.lc_model.specs.Host.ScheduleText.{lines_read, schedule_in}
use Rattle.text_lines.specs.Lines.{lines_in, most_lines}
use Rattle.schedules.proofs.parsing.parse_schedule.Given as goal

abbrev pub invariant-loop-left : goal.invariant-loop-left
invariant-loop-left l = record {
  says : lines_read l.known (l.n + 1) (lines_in l.left) ≡ schedule_in l.text;
  counted : l.n + most_lines l.left ≤ length l.text + 1;
}

abbrev pub decreases-loop-left : goal.decreases-loop-left
decreases-loop-left l = most_lines l.left
