use Rattle.std.proofs.Common.{◌≡◌, replicate}
use Rattle.std.specs.Prelude.{vec_capacity, vec_len}
use Rattle.packet_bus.specs.Inside.{nobody}
use Rattle.packet_bus.proofs.bus.empty_rows.Given as goal

abbrev pub invariant-loop : goal.invariant-loop
invariant-loop l = record {
  rows : l.rows.items ≡ replicate l.counter nobody;
  len : vec_len l.rows ≡ l.counter;
  room : vec_capacity l.rows ≡ 8192;
}
