use Rattle.std.proofs.Common.{◌≡◌, map, take}
use Rattle.serde_json.specs.View.{view}
use Rattle.diagnostics.specs.Object.{mark_object}
use Rattle.diagnostics.proofs.object.mark_objects.Given as goal

abbrev pub invariant-loop-mark : goal.invariant-loop-mark
invariant-loop-mark l = map view l.values.items ≡ map (mark_object l.text) (take l.mark-index l.marks)
