use Rattle.std.proofs.Common.{◌∙◌, ap, sym, map}
use Rattle.std.specs.Prelude.{slice_set}
use Rattle.packet_bus.specs.Seats.{together}
use Rattle.packet_bus.specs.Line.{has_slots}
use Rattle.packet_bus.proofs.Delivered.{is_left, only_least, only_one, delivered_once, ready_then}
use Rattle.packet_bus.proofs.Published.{kept_then}
use Rattle.packet_bus.proofs.bus.deliver.Goals as goal

pub deliver_to-requires-clause-open : goal.deliver_to-requires-clause-open
deliver_to-requires-clause-open c =
    let seat = c.in-Some.seat in
    (c.requires.room seat (is_left seat c.args.hearers (only_least seat c.args.hearers (sym c.in-Some.is ∙ c.only.ensures)))).0

pub deliver_to-requires-clause-room : goal.deliver_to-requires-clause-room
deliver_to-requires-clause-room c =
    let seat = c.in-Some.seat in
    (c.requires.room seat (is_left seat c.args.hearers (only_least seat c.args.hearers (sym c.in-Some.is ∙ c.only.ensures)))).1

pub returns-clause-places : goal.returns-clause-places
returns-clause-places c =
    c.deliver_to.ensures.places ∙ delivered_once c.reserve-slot.result c.in-Some.seat c.args.hearers c.args.places.now.items (sym c.in-Some.is ∙ c.only.ensures)

pub returns-clause-ready : goal.returns-clause-ready
returns-clause-ready c =
    c.add.ensures
    ∙ ap (λ ready. together ready c.args.hearers) c.requires.ready
    ∙ ready_then c.reserve-slot.result c.args.hearers c.args.places.now.items c.requires.room
    ∙ ap (map has_slots) (sym (returns-clause-places c))

pub returns-clause-pool : goal.returns-clause-pool
returns-clause-pool c =
    kept_then _ _ _ _ 1 c.args.packet.now c.reserve-slot.ensures.within c.reserve-slot.ensures.after c.put.ensures
    ∙ ap (λ readers. slice_set c.args.pool.now c.reserve-slot.result (record { packet = c.args.packet.now; readers = readers })) (sym (only_one c.in-Some.seat c.args.hearers (sym c.in-Some.is ∙ c.only.ensures)))

pub returns-in_default-clause-ready : goal.returns-in_default-clause-ready
returns-in_default-clause-ready c =
    c.add.ensures
    ∙ ap (λ ready. together ready c.args.hearers) c.requires.ready
    ∙ ready_then c.deliver_to_each.result c.args.hearers c.args.places.now.items c.requires.room
    ∙ ap (map has_slots) (sym c.deliver_to_each.ensures.places)
