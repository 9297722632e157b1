-- What is said and left is what the script says, and each line so far has its start.
use Rattle.std.proofs.Common.{◌≡◌, ◌+◌, ◌++◌, length}
use Rattle.lc_model.specs.Host.ScheduleText.{lines_of}
use Rattle.text_lines.specs.Lines.{lines_in, most_lines}
use Rattle.stream_script.specs.ByLines.{starts_from, starts_in}
use Rattle.stream_script.specs.Script.{lines_said, nothing_said}
use Rattle.stream_script.proofs.line_reader.read_lines.Given as goal

abbrev pub invariant-loop-left : goal.invariant-loop-left
invariant-loop-left l = record {
  says : lines_said l.said (length l.starts.items + 1) (lines_in l.left) ≡ lines_said nothing_said 1 (lines_of l.script);
  starts : l.starts.items ++ starts_from l.said (lines_in l.left) ≡ starts_in l.script;
}

abbrev pub decreases-loop-left : goal.decreases-loop-left
decreases-loop-left l = most_lines l.left
