use Rattle.std.proofs.Common.{length, ◌-◌, ◌≡◌, ◌≤◌}
use Rattle.editor_text.specs.Place.{place_of, reach}
use Rattle.editor_text.proofs.position.reach.Given as goal

abbrev pub invariant-loop-at : goal.invariant-loop-at
invariant-loop-at l = record {
  within : l.at ≤ length l.text;
  place : l.here ≡ place_of l.text l.at;
  same : reach l.text l.place l.at (length l.text - l.at) ≡ reach l.text l.place 0 (length l.text);
}

abbrev pub decreases-loop-at : goal.decreases-loop-at
decreases-loop-at l = length l.text - l.at
