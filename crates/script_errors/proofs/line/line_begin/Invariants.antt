use Rattle.std.proofs.Common.{◌≡◌, ◌≤◌, ◌-◌, length}
use Rattle.diagnostics.specs.Line.{line_number, line_start}
use Rattle.script_errors.proofs.line.line_begin.Given as goal

abbrev pub invariant-loop-line : goal.invariant-loop-line
invariant-loop-line l =
    (l.at ≤ length l.text) × (l.line ≡ line_number l.text l.at) × (l.line ≤ l.number) × (l.number ≤ l.line → line_start l.text l.at ≡ l.at)

abbrev pub decreases-loop-line : goal.decreases-loop-line
decreases-loop-line l = length l.text - l.at
