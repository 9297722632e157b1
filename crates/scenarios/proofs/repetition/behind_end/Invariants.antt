-- The end is found among the lines that are left.
use Rattle.std.proofs.Common.{◌≡◌, ◌≤◌, drop}
use Rattle.text_lines.specs.Lines.{texts_of}
use Rattle.scenarios.specs.Plain.{behind_end}
use Rattle.scenarios.proofs.repetition.behind_end.Given as goal

abbrev pub invariant-loop-place : goal.invariant-loop-place
invariant-loop-place l = record {
  finds : behind_end l.depth l.place (texts_of (drop l.place l.lines)) ≡ behind_end 0 l.first (drop l.first (texts_of l.lines));
  counted : l.depth ≤ l.place;
}
