-- The lines so far, and those of what is left, are the stream's.
use Rattle.std.proofs.Common.{◌≡◌, ◌++◌}
use Rattle.stream_script.specs.Front.{bytes_left}
use Rattle.stream_script.specs.Whole.{script_of, script_of_rest}
use Rattle.stream_script.proofs.writing.write_script.Given as goal

abbrev pub invariant-loop-left : goal.invariant-loop-left
invariant-loop-left l = l.script.items ++ script_of_rest l.left ≡ script_of l.stream

abbrev pub decreases-loop-left : goal.decreases-loop-left
decreases-loop-left l = bytes_left l.left
