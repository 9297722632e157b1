use Rattle.std.proofs.Common.{string_bytes, ◌∙◌}
use Rattle.diagnostics.proofs.Pushed.{pushed}
use Rattle.diagnostics.proofs.quoting.push_bytes.Goals as goal

pub loop-column-preserved : goal.loop-column-preserved
loop-column-preserved c =
    c.in_ok-push.ensures.bytes
    ∙ pushed (string_bytes c.loop-column.text) (string_bytes c.args.text.now) c.deref-column-items.result.now c.loop-column.column-index
    c.column-item.result c.loop-column-test.true c.column-item.is c.loop-column.invariant
