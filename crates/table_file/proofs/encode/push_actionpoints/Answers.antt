use Rattle.lc_model.specs.Tables.Image.{entry_bytes}
use Rattle.table_file.specs.Layout.{layout_of}
use Rattle.table_file.proofs.Appending.{item_written}
use Rattle.table_file.proofs.encode.push_actionpoints.Goals as goal

pub loop-entry-preserved : goal.loop-entry-preserved
loop-entry-preserved c =
    item_written (entry_bytes (layout_of c.args.layout)) c.args.entries.now c.loop-entry.entry-index c.entry-item.result c.args.out.now.items _ _
    c.loop-entry-test.true c.entry-item.is c.loop-entry.invariant c.in_ok-push_actionpoint.ensures
