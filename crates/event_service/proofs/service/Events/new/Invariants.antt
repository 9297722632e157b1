use Rattle.std.proofs.Common.{◌≡◌, replicate, None}
use Rattle.std.specs.Prelude.{vec_capacity, vec_len}
use Rattle.event_service.proofs.service.Events.new.Given as goal

abbrev pub invariant-loop : goal.invariant-loop
invariant-loop l = record {
  places : l.places.items ≡ replicate l.counter None;
  len : vec_len l.places ≡ l.counter;
  room : vec_capacity l.places ≡ 8;
}
