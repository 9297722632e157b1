use Rattle.std.proofs.Common.{◌≡◌, ◌∙◌, ap, ap₂, sym, false, length, length-set}
use Rattle.std.specs.Prelude.{Some, slice_set, option_map}
use Rattle.std.specs.List.{position_from}
use Rattle.packet_bus.specs.Seats.{is_in}
use Rattle.packet_bus.specs.Line.{with_slot}
use Rattle.packet_bus.specs.Inside.{place_at, delivered}
use Rattle.packet_bus.proofs.Delivered.{is_left, left_within, none_left, fewer_left, delivered_on, room_left}
use Rattle.packet_bus.proofs.Published.{kept_then}
use Rattle.packet_bus.proofs.bus.deliver_to_each.Goals as goal

pub deliver_to-requires-clause-open : goal.deliver_to-requires-clause-open
deliver_to-requires-clause-open c =
    let next : position_from is_in 0 c.loop-seat.left ≡ Some c.in-Some.seat = sym c.pop_least.ensures.least ∙ c.in-Some.is in
    (c.loop-seat.invariant.room c.in-Some.seat (is_left c.in-Some.seat c.loop-seat.left next)).0

pub deliver_to-requires-clause-room : goal.deliver_to-requires-clause-room
deliver_to-requires-clause-room c =
    let next : position_from is_in 0 c.loop-seat.left ≡ Some c.in-Some.seat = sym c.pop_least.ensures.least ∙ c.in-Some.is in
    (c.loop-seat.invariant.room c.in-Some.seat (is_left c.in-Some.seat c.loop-seat.left next)).1

pub loop-seat-smaller : goal.loop-seat-smaller
loop-seat-smaller c =
    let next : position_from is_in 0 c.loop-seat.left ≡ Some c.in-Some.seat = sym c.pop_least.ensures.least ∙ c.in-Some.is in
    rw c.in-Some.ensures.after (fewer_left c.in-Some.seat c.loop-seat.left next)

pub loop-seat-preserved : goal.loop-seat-preserved
loop-seat-preserved c =
    let kept = c.loop-seat.invariant in
    let seat = c.in-Some.seat in
    let left = c.loop-seat.left in
    let places = c.loop-seat.places.items in
    let next : position_from is_in 0 left ≡ Some seat = sym c.pop_least.ensures.least ∙ c.in-Some.is in
    let there = is_left seat left next in
    let new = option_map (with_slot c.reserve-slot.result) (place_at places seat) in
    record {
      whole = ap₂ (delivered c.reserve-slot.result) c.in-Some.ensures.after c.deliver_to.ensures.places ∙ delivered_on c.reserve-slot.result seat left places there ∙ kept.whole;
      eight = ap length c.deliver_to.ensures.places ∙ length-set places seat new ∙ kept.eight;
      seats = ap length c.in-Some.ensures.after ∙ length-set left seat false ∙ kept.seats;
      room = rw (c.in-Some.ensures.after, c.deliver_to.ensures.places) (room_left seat left places new (left_within seat left next) kept.room);
      full = c.deliver_to.ensures.full;
      capacity = c.deliver_to.ensures.capacity ∙ kept.capacity;
    }

pub returns-clause-places : goal.returns-clause-places
returns-clause-places c =
    sym (none_left c.reserve-slot.result c.loop-seat.left c.loop-seat.places.items (sym c.in_default.ensures.least))
    ∙ c.loop-seat.invariant.whole

pub returns-clause-pool : goal.returns-clause-pool
returns-clause-pool c =
    kept_then _ _ _ _ _ c.args.packet.now c.reserve-slot.ensures.within c.reserve-slot.ensures.after c.put.ensures
    ∙ ap (λ readers. slice_set c.args.pool.now c.reserve-slot.result (record { packet = c.args.packet.now; readers = readers })) c.count.ensures
