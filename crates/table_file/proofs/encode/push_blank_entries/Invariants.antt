use Rattle.std.proofs.Common.{◌≡◌, ◌++◌, replicate}
use Rattle.std.specs.List.{flat_map}
use Rattle.lc_model.specs.Tables.Image.{blank_entry}
use Rattle.table_file.specs.Layout.{layout_of}
use Rattle.table_file.proofs.encode.push_blank_entries.Given as goal

abbrev pub invariant-loop : goal.invariant-loop
invariant-loop l = l.out.items ≡ l.initial.out.items ++ flat_map (λ e. e) (replicate l.counter (blank_entry (layout_of l.layout)))
