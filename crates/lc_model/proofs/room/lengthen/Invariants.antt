use Rattle.std.proofs.Common.{◌≡◌, ◌-◌, ◌≤◌, ℕ, length, take, vec_capacity}
use Rattle.std.specs.Vec.{vec_ptr}
use Rattle.lc_model.proofs.room.lengthen.Given as goal

abbrev pub invariant-loop-bytes : goal.invariant-loop-bytes
invariant-loop-bytes l = record {
  longer : length l.fn.bytes.items ≤ length l.bytes.items;
  front : (at : ℕ) → at ≤ length l.fn.bytes.items → take at l.bytes.items ≡ take at l.fn.bytes.items;
  capacity : vec_capacity l.bytes ≡ vec_capacity l.fn.bytes;
  place : vec_ptr l.bytes ≡ vec_ptr l.fn.bytes;
}

abbrev pub decreases-loop-bytes : goal.decreases-loop-bytes
decreases-loop-bytes l = l.size - length l.bytes.items
