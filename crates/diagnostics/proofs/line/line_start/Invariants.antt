use Rattle.std.proofs.Common.{◌≡◌, ◌≤◌}
use Rattle.diagnostics.specs.Line.{line_start}
use Rattle.diagnostics.proofs.line.line_start.Given as goal

abbrev pub invariant-loop-start : goal.invariant-loop-start
invariant-loop-start l = (l.start ≤ l.at) × (line_start l.text l.start ≡ line_start l.text l.at)

abbrev pub decreases-loop-start : goal.decreases-loop-start
decreases-loop-start l = l.start
