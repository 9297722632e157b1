use Rattle.std.proofs.Common.{refl, sym, ◌∙◌}
use Rattle.event_service.proofs.TypesAmong.{another_here, nobody_here, type_here, nobody_anywhere}
use Rattle.event_service.proofs.service.is_type_on_among.Goals as goal
use Rattle.event_service.proofs.service.is_type_on_among.Goals.{in-Some+else-is_named, in_default}

pub loop-place-init : goal.loop-place-init
loop-place-init c = refl

pub returns-then-is_named : goal.returns-then-is_named
returns-then-is_named c =
    c.has_type.ensures ∙ sym (type_here c.args.places.now c.args.name.now c.loop-place.place-index c.place-item.result c.loop-place-test.true c.place-item.is
    c.loop-place.invariant c.args.kind c.in-Some.sender c.in-Some.is (sym c.is_named.ensures ∙ c.if-is_named.true))

pub loop-place-preserved : goal.loop-place-preserved
loop-place-preserved c =
    elim c.match-place.branch [
      | in-Some+else-is_named w ↦
          another_here c.args.places.now c.args.name.now c.loop-place.place-index c.place-item.result c.loop-place-test.true c.place-item.is
          c.loop-place.invariant w.in-Some.sender w.in-Some.is (sym w.is_named.ensures ∙ w.if-is_named.false)
      | in_default w ↦
          nobody_here c.args.places.now c.args.name.now c.loop-place.place-index c.place-item.result c.loop-place-test.true c.place-item.is
          c.loop-place.invariant w.in_default.is
    ]

pub returns : goal.returns
returns c = sym (nobody_anywhere c.args.places.now c.args.name.now c.loop-place.place-index c.args.kind c.loop-place.invariant c.loop-place-test.false)
