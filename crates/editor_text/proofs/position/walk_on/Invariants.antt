use Rattle.std.proofs.Common.{◌≡◌}
use Rattle.editor_text.specs.Place.{place_of}
use Rattle.editor_text.proofs.position.walk_on.Given as goal

abbrev pub invariant-loop-here : goal.invariant-loop-here
invariant-loop-here l = l.place ≡ place_of l.text l.here
