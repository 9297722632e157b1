use Rattle.std.proofs.Common.{◌∙◌, ap, sym, rules}
use Rattle.lc_model.specs.Services.Bus.{without_oldest}
use Rattle.packet_bus.specs.Inside.{shown, changed}
use Rattle.packet_bus.proofs.Places.{is_slot, waits_here, popped, shown_popped, untouched}
use Rattle.packet_bus.proofs.bus.Bus.discard_oldest.Goals as goal

pub release-requires-clause-within : goal.release-requires-clause-within
release-requires-clause-within c =
    let oldest = c.take_oldest-oldest.ensures in
    is_slot _ _ _ _ _ c.self.invariant.0 c.args.seat oldest.below c.in-Some.slot (sym oldest.slot ∙ c.in-Some.is)

pub release-requires-clause-waiting : goal.release-requires-clause-waiting
release-requires-clause-waiting c =
    let oldest = c.take_oldest-oldest.ensures in
    waits_here _ _ _ _ _ c.self.invariant.0 c.args.seat oldest.below c.in-Some.slot (sym oldest.slot ∙ c.in-Some.is)

pub invariant_of-self-2 : goal.invariant_of-self-2
invariant_of-self-2 c =
    let oldest = c.take_oldest-oldest.ensures in (
      rw c.release.ensures
          (popped _ _ _ _ _ c.self.invariant.0 c.args.seat oldest.below c.in-Some.slot (sym oldest.slot ∙ c.in-Some.is) _ _ _ oldest.places oldest.ready oldest.full),
      search rules,
      search rules,
    )

pub invariant_of-self : goal.invariant_of-self
invariant_of-self c =
    let oldest = c.take_oldest-oldest.ensures in
    (untouched _ _ _ _ _ c.self.invariant.0 c.args.seat oldest.below (sym oldest.slot ∙ c.in_default.is) _ _ _ oldest.places oldest.ready oldest.full, search rules, search rules)

pub returns-clause-after : goal.returns-clause-after
returns-clause-after c =
    let oldest = c.take_oldest-oldest.ensures in
    rw c.release.ensures
    (ap (shown _) oldest.places
    ∙ shown_popped _ _ _ _ _ c.self.invariant.0 c.args.seat oldest.below c.in-Some.slot (sym oldest.slot ∙ c.in-Some.is)
    ∙ ap (changed c.args.seat without_oldest) c.self.view_is)
