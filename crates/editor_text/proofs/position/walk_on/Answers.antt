use Rattle.std.proofs.Common.{◌+◌, refl, sym, ap, ◌∙◌}
use Rattle.editor_text.specs.Place.{next_place}
use Rattle.editor_text.proofs.Places.{one_more}
use Rattle.editor_text.proofs.position.walk_on.Goals as goal

pub loop-here-preserved : goal.loop-here-preserved
loop-here-preserved c =
    let text = c.args.text.now in
    c.next_place-place.ensures ∙ ap (λ place. next_place text c.loop-here.here place) c.loop-here.invariant
    ∙ sym (one_more text c.loop-here.here (c.loop-here.here + 1) refl)
