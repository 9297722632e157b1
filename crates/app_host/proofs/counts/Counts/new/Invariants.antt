use Rattle.std.proofs.Common.{◌≡◌, ◌<◌, ℕ, replicate}
use Rattle.std.specs.Prelude.{vec_capacity, vec_len, All}
use Rattle.app_host.proofs.counts.Counts.new.Given as goal

abbrev pub invariant-loop : goal.invariant-loop
invariant-loop l = record {
  counts : l.counts.items ≡ replicate l.counter 0;
  small : All (λ (count : ℕ). count < 16384) l.counts.items;
  len : vec_len l.counts ≡ l.counter;
  room : vec_capacity l.counts ≡ 8192;
}
