use Rattle.std.proofs.Common.{◌≡◌, ◌++◌, take}
use Rattle.std.specs.List.{flat_map}
use Rattle.lc_model.specs.Tables.Image.{entry_bytes}
use Rattle.table_file.specs.Layout.{layout_of}
use Rattle.table_file.proofs.encode.push_actionpoints.Given as goal

abbrev pub invariant-loop-entry : goal.invariant-loop-entry
invariant-loop-entry l = l.out.items ≡ l.initial.out.items ++ flat_map (entry_bytes (layout_of l.layout)) (take l.entry-index l.entries)
