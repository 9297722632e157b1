-- One field more.
use Rattle.std.proofs.Common.{◌∙◌}
use Rattle.stream_script.proofs.Triples.{one_field}
use Rattle.stream_script.proofs.fields.fields_set.Goals as goal

pub loop-left-preserved : goal.loop-left-preserved
loop-left-preserved c = record {
  says = one_field c.loop-left.after.items c.in_ok-after.after.items c.loop-left.left.now _ c.in-len3-up.len_at_least c.in_ok-after.ensures.set ∙ c.loop-left.invariant.says;
  same_size = c.in_ok-after.ensures.same_size ∙ c.loop-left.invariant.same_size;
}
