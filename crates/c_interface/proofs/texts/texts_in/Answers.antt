use Rattle.std.proofs.Common.{◌∙◌, ap, rules, length, [], ◌∷◌}
use Rattle.std.proofs.lemmas.List.{map-append, length-drop}
use Rattle.flight_core.specs.Compiled.{sources_of}
use Rattle.c_interface.proofs.Parted.{counts_left, none_left, one_more}
use Rattle.c_interface.proofs.texts.texts_in.Goals as goal

pub loop-others-preserved : goal.loop-others-preserved
loop-others-preserved c = (
  one_more (sources_of c.loop-others.texts.items) _ c.loop-others.left.now c.split_at.result.1.now c.split_at.result.0.now c.loop-others.others.now _ _ (search rules) (search rules)
      c.split_at.ensures.front c.split_at.ensures.back
      (ap sources_of c.in_ok-push.ensures.items ∙ map-append (λ text. text.now) c.loop-others.texts.items (c.split_at.result.0 ∷ [])) c.loop-others.invariant.0,
  counts_left _ _ c.loop-others.others.now c.split_at.result.1.now (search rules) (search rules) c.loop-others.invariant.1 (ap length c.split_at.ensures.back ∙ length-drop _ c.loop-others.left.now),
)

pub returns : goal.returns
returns c = none_left c.loop-others.left.now c.loop-others.others.now (sources_of c.loop-others.texts.items) _ c.in_default.len_below c.loop-others.invariant.0
