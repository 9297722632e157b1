use Rattle.std.proofs.Common.{◌≡◌, ◌&&◌, ◌==◌, drop}
use Rattle.std.specs.List.{list_all}
use Rattle.table_file.proofs.entry.are_zeros.Given as goal

abbrev pub invariant-loop-byte : goal.invariant-loop-byte
invariant-loop-byte l = (l.are_zeros && list_all (λ b. b == 0) (drop l.byte-index l.bytes)) ≡ list_all (λ b. b == 0) l.bytes
