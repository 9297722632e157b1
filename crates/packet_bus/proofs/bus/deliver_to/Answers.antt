use Rattle.std.proofs.Common.{◌∙◌, ap, sym, ◌<◌, arith, true, length}
use Rattle.std.specs.Prelude.{is_some}
use Rattle.packet_bus.specs.Line.{is_long}
use Rattle.packet_bus.specs.Inside.{place_at}
use Rattle.packet_bus.proofs.Places.{is_place_at, set_then, set_same}
use Rattle.packet_bus.proofs.bus.deliver_to.Goals as goal

pub push-requires-clause-open : goal.push-requires-clause-open
push-requires-clause-open c =
    let below : c.index.result < length c.args.places.now.items = omega (arith, c.index.ensures.below, c.requires.eight) in
    ap is_some (is_place_at c.args.places.now.items c.index.result c.index_mut.result.now below c.index_mut.ensures.value)
    ∙ ap (λ seat. is_some (place_at c.args.places.now.items seat)) c.index.ensures.value
    ∙ c.requires.open

pub push-requires-clause-room : goal.push-requires-clause-room
push-requires-clause-room c =
    let below : c.index.result < length c.args.places.now.items = omega (arith, c.index.ensures.below, c.requires.eight) in
    ap is_long (is_place_at c.args.places.now.items c.index.result c.index_mut.result.now below c.index_mut.ensures.value)
    ∙ ap (λ seat. is_long (place_at c.args.places.now.items seat)) c.index.ensures.value
    ∙ c.requires.room

pub returns-then-push-clause-full : goal.returns-then-push-clause-full
returns-then-push-clause-full c =
    set_then is_long c.args.places.now.items c.args.seat c.index.result c.args.full.now c.insert.new.self c.push.new.self true c.index.ensures.value c.requires.full
    (sym c.if-push.ensures.full) c.insert.ensures

pub returns-else-push-clause-full : goal.returns-else-push-clause-full
returns-else-push-clause-full c =
    set_same is_long c.args.places.now.items c.index.result c.args.full.now c.push.new.self c.requires.full
    (sym c.if-push.ensures.full ∙ sym (ap (λ seat. is_long (place_at c.args.places.now.items seat)) c.index.ensures.value ∙ c.requires.room))
