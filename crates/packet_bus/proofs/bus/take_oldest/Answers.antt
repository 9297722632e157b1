use Rattle.std.proofs.Common.{◌≡◌, ◌∙◌, ap, sym, ◌<◌, ◌≤◌, arith, false, length}
use Rattle.packet_bus.specs.Line.{first_slot, has_slots, is_long, slots_in}
use Rattle.packet_bus.specs.Inside.{place_at}
use Rattle.packet_bus.proofs.Places.{is_place_at, set_then, set_same, has_first, has_room_behind}
use Rattle.packet_bus.proofs.bus.take_oldest.Goals.{then-not-is_ready, else-not-is_ready}
use Rattle.packet_bus.proofs.bus.take_oldest.Goals as goal

pub returns-clause-ready : goal.returns-clause-ready
returns-clause-ready c =
    let at = c.index.result in
    let places = c.args.places.now.items in
    let below : at < length places = omega (arith, c.index.ensures.below, c.requires.eight) in
    let old = c.index_mut-place.result.now in
    let place : old ≡ place_at places at = is_place_at places at old below c.index_mut-place.ensures.value in
    elim c.if-not-is_ready.branch [
      | then-not-is_ready w ↦
          w.ready-is
          ∙ set_then has_slots places c.args.seat at c.args.ready.now w.remove.new.self c.pop.new.self false c.index.ensures.value c.requires.ready (sym w.if-not-is_ready.ensures) w.remove.ensures
      | else-not-is_ready w ↦
          w.ready-is
          ∙ set_same has_slots places at c.args.ready.now c.pop.new.self c.requires.ready
          (sym w.if-not-is_ready.ensures ∙ sym (has_first c.in_ok-slot.slot (place_at places at) (ap first_slot (sym place) ∙ sym c.pop.ensures.slot ∙ c.in_ok-slot.was)))
    ]

pub returns-clause-full : goal.returns-clause-full
returns-clause-full c =
    let at = c.index.result in
    let places = c.args.places.now.items in
    let below : at < length places = omega (arith, c.index.ensures.below, c.requires.eight) in
    let old = c.index_mut-place.result.now in
    let place : old ≡ place_at places at = is_place_at places at old below c.index_mut-place.ensures.value in
    let short : length (slots_in old) ≤ 72 = rw place (c.requires.short at) in
    set_then is_long places c.args.seat at c.args.full.now c.remove-2.new.self c.pop.new.self false c.index.ensures.value c.requires.full
    (ap is_long c.pop.ensures.after ∙ has_room_behind c.in_ok-slot.slot old (sym c.pop.ensures.slot ∙ c.in_ok-slot.was) short) c.remove-2.ensures
