use Rattle.std.proofs.Common.{refl}
use Rattle.event_service.specs.Filters.{renewed}
use Rattle.event_service.proofs.FilterLists.{written, own_ids_with, room_there, full, unchanged, own_with_more, put_more}
use Rattle.event_service.proofs.filter.Filters.set.Goals as goal

pub invariant_of-self : goal.invariant_of-self
invariant_of-self c =
    own_ids_with (renewed c.args.mask) c.args.id c.self.inside.list.items _ (λ filter. refl)
    (written (renewed c.args.mask) c.args.id c.self.inside.list.items c.as_mut_slice.result.now c.renew.new.filters c.as_mut_slice.ensures.value c.renew.ensures.after) c.self.invariant

pub invariant_of-self-then-is_full : goal.invariant_of-self-then-is_full
invariant_of-self-then-is_full c =
    own_ids_with (renewed c.args.mask) c.args.id c.self.inside.list.items _ (λ filter. refl)
    (written (renewed c.args.mask) c.args.id c.self.inside.list.items c.as_mut_slice.result.now c.renew.new.filters c.as_mut_slice.ensures.value c.renew.ensures.after) c.self.invariant

pub returns-then-renew-clause-room : goal.returns-then-renew-clause-room
returns-then-renew-clause-room c =
    room_there c.args.id c.args.mask c.args.self.now c.self.inside.list.items c.as_mut_slice.result.now c.renew.new.filters c.renew.result c.self.view_is
    c.as_mut_slice.ensures.value c.renew.ensures.found c.renew.ensures.after c.if-renew.true

pub returns-then-is_full-clause-room : goal.returns-then-is_full-clause-room
returns-then-is_full-clause-room c =
    full c.args.id c.args.mask c.args.self.now c.self.inside.list.items c.as_mut_slice.result.now c.renew.new.filters c.renew.result c.self.view_is
    c.as_mut_slice.ensures.value c.renew.ensures.found c.renew.ensures.after c.if-renew.false
    c.is_full.result c.is_full.ensures.value c.if-is_full.true

pub returns-then-is_full-clause-after : goal.returns-then-is_full-clause-after
returns-then-is_full-clause-after c =
    unchanged c.args.id c.args.mask c.args.self.now c.self.inside.list.items c.as_mut_slice.result.now c.renew.new.filters c.renew.result c.self.view_is
    c.as_mut_slice.ensures.value c.renew.ensures.found c.renew.ensures.after c.if-renew.false

pub invariant_of-self-2 : goal.invariant_of-self-2
invariant_of-self-2 c =
    own_with_more c.args.id c.args.mask c.args.self.now c.self.inside.list.items c.as_mut_slice.result.now c.renew.new.filters c.renew.result c.self.view_is
    c.as_mut_slice.ensures.value c.renew.ensures.found c.renew.ensures.after c.if-renew.false
    c.push.new.self.items c.new.result c.new.ensures c.push.ensures.items c.self.invariant

pub returns-clause-after : goal.returns-clause-after
returns-clause-after c =
    put_more c.args.id c.args.mask c.args.self.now c.self.inside.list.items c.as_mut_slice.result.now c.renew.new.filters c.renew.result c.self.view_is
    c.as_mut_slice.ensures.value c.renew.ensures.found c.renew.ensures.after c.if-renew.false
    c.push.new.self.items c.new.result c.new.ensures c.push.ensures.items
