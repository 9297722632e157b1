use Rattle.std.proofs.Common.{◌≡◌, length, vec_capacity}
use Rattle.tbl_service.proofs.store.Files.new.Given as goal

abbrev pub invariant-loop : goal.invariant-loop
invariant-loop l = (length l.spare.items ≡ l.counter) × (vec_capacity l.spare ≡ 8)
