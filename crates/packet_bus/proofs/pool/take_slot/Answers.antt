use Rattle.std.proofs.Common.{◌≡◌, ◌∙◌, ◌++◌, ◌∷◌, [], ap, subst, List, ℕ, arith, ◌<◌, length}
use Rattle.std.specs.Prelude.{slice_set, vec_capacity}
use Rattle.std.proofs.lemmas.Grind.{common_steps}
use Rattle.packet_bus.specs.Slots.{all_slots, IsPool}
use Rattle.packet_bus.proofs.Slots.{is_slot, next_used, set_all, taken}
use Rattle.packet_bus.proofs.pool.take_slot.Goals as goal

pub returns-in_default-clause-after : goal.returns-in_default-clause-after
returns-in_default-clause-after c =
    let few : length c.args.slots.now.items < 576 = grind (arith, common_steps, c.requires.pool.all, c.requires.room, c.in_default.ensures) in
    ap all_slots c.add_slot.ensures.items ∙ next_used c.args.slots.now.items c.add_slot.result c.args.readers few c.add_slot.ensures.number

pub index_mut-requires : goal.index_mut-requires
index_mut-requires c =
    let popped : c.args.free.now.items ≡ c.pop.new.self.items ++ c.in-Some.number ∷ [] = grind (arith, common_steps, c.in-Some.ensures) in
    let pool = subst (λ (free : List ℕ). IsPool c.args.slots.now.items free (vec_capacity c.args.slots.now) (vec_capacity c.args.free.now)) popped c.requires.pool in
    let slot : c.in-Some.number < length c.args.slots.now.items = is_slot _ _ _ _ _ pool in
    omega arith

pub returns-clause-pool : goal.returns-clause-pool
returns-clause-pool c =
    let popped : c.args.free.now.items ≡ c.pop.new.self.items ++ c.in-Some.number ∷ [] = grind (arith, common_steps, c.in-Some.ensures) in
    let pool = subst (λ (free : List ℕ). IsPool c.args.slots.now.items free (vec_capacity c.args.slots.now) (vec_capacity c.args.free.now)) popped c.requires.pool in
    taken _ _ _ _ _ pool _ _ (rw c.reserve.ensures c.requires.read) c.pop.ensures.capacity

pub returns-clause-after : goal.returns-clause-after
returns-clause-after c =
    let popped : c.args.free.now.items ≡ c.pop.new.self.items ++ c.in-Some.number ∷ [] = grind (arith, common_steps, c.in-Some.ensures) in
    let pool = subst (λ (free : List ℕ). IsPool c.args.slots.now.items free (vec_capacity c.args.slots.now) (vec_capacity c.args.free.now)) popped c.requires.pool in
    let slot : c.in-Some.number < length c.args.slots.now.items = is_slot _ _ _ _ _ pool in
    set_all c.args.slots.now.items c.in-Some.number c.reserve.new.self slot
    ∙ ap (slice_set (all_slots c.args.slots.now.items) c.in-Some.number) (grind (arith, common_steps, c.reserve.ensures, c.index_mut.ensures.value))
