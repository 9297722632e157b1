use Rattle.std.proofs.Common.{◌∙◌, ap, sym, subst, IfSome, None, ◌≡◌, rules}
use Rattle.lc_model.specs.Packet.{header_fault}
use Rattle.lc_model.specs.Services.Bus.{Bus, oldest_at, without_oldest}
use Rattle.packet_bus.specs.Inside.{shown, changed}
use Rattle.packet_bus.proofs.Places.{is_slot, waits_here, popped, shown_popped, untouched, good_oldest}
use Rattle.packet_bus.proofs.bus.Bus.take_packet.Goals as goal

pub take-requires-clause-within : goal.take-requires-clause-within
take-requires-clause-within c =
    let oldest = c.take_oldest.ensures in
    is_slot _ _ _ _ _ c.self.invariant.0 c.args.seat oldest.below c.in_ok-slot.slot (sym oldest.slot ∙ c.in_ok-slot.was)

pub take-requires-clause-waiting : goal.take-requires-clause-waiting
take-requires-clause-waiting c =
    let oldest = c.take_oldest.ensures in
    waits_here _ _ _ _ _ c.self.invariant.0 c.args.seat oldest.below c.in_ok-slot.slot (sym oldest.slot ∙ c.in_ok-slot.was)

pub invariant_of-self-2 : goal.invariant_of-self-2
invariant_of-self-2 c =
    let oldest = c.take_oldest.ensures in (
      rw c.take.ensures.after
          (popped _ _ _ _ _ c.self.invariant.0 c.args.seat oldest.below c.in_ok-slot.slot (sym oldest.slot ∙ c.in_ok-slot.was) _ _ _ oldest.places oldest.ready oldest.full),
      search rules,
      search rules,
    )

pub returns-clause-after : goal.returns-clause-after
returns-clause-after c =
    let oldest = c.take_oldest.ensures in
    rw c.take.ensures.after
    (ap (shown _) oldest.places
    ∙ shown_popped _ _ _ _ _ c.self.invariant.0 c.args.seat oldest.below c.in_ok-slot.slot (sym oldest.slot ∙ c.in_ok-slot.was)
    ∙ ap (changed c.args.seat without_oldest) c.self.view_is)

pub returns-clause-good : goal.returns-clause-good
returns-clause-good c =
    subst (λ (bus : Bus). IfSome (oldest_at c.args.seat bus) (λ packet. header_fault packet ≡ None)) c.self.view_is
    (good_oldest _ _ _ _ _ c.self.invariant.0 c.args.seat c.take_oldest.ensures.below)

pub invariant_of-self : goal.invariant_of-self
invariant_of-self c =
    let oldest = c.take_oldest.ensures in
    (untouched _ _ _ _ _ c.self.invariant.0 c.args.seat oldest.below (sym oldest.slot ∙ c.in_err-slot.was) _ _ _ oldest.places oldest.ready oldest.full, search rules, search rules)
