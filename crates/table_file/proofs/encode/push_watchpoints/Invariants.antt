use Rattle.std.proofs.Common.{◌≡◌, ◌++◌, take}
use Rattle.std.specs.List.{flat_map}
use Rattle.lc_model.specs.Tables.Image.{term_bytes}
use Rattle.table_file.proofs.encode.push_watchpoints.Given as goal

abbrev pub invariant-loop-term : goal.invariant-loop-term
invariant-loop-term l = l.out.items ≡ l.initial.out.items ++ flat_map term_bytes (take l.term-index l.terms)
