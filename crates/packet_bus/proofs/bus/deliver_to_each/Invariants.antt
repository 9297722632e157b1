use Rattle.std.proofs.Common.{◌≡◌, length, map, count_by}
use Rattle.std.specs.Prelude.{vec_capacity}
use Rattle.packet_bus.specs.Seats.{is_in}
use Rattle.packet_bus.specs.Line.{is_long}
use Rattle.packet_bus.specs.Inside.{delivered, HaveRoom}
use Rattle.packet_bus.proofs.bus.deliver_to_each.Given as goal

-- what is left to be done with what is done gives all
abbrev pub invariant-loop-seat : goal.invariant-loop-seat
invariant-loop-seat l = record {
  whole : delivered l.slot l.left l.places.items ≡ delivered l.slot l.initial.left l.initial.places.items;
  eight : length l.places.items ≡ 8;
  seats : length l.left ≡ 8;
  room : HaveRoom l.left l.places.items;
  full : l.full ≡ map is_long l.places.items;
  capacity : vec_capacity l.places ≡ vec_capacity l.initial.places;
}

-- the seats that are left
abbrev pub decreases-loop-seat : goal.decreases-loop-seat
decreases-loop-seat l = count_by is_in l.left
