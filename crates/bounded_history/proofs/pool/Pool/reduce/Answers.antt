use Rattle.std.proofs.Common.{List, set, length, ◌≡◌, ◌≤◌, ◌<◌, ◌∙◌, arith, subst, max, ◌*◌, ◌+◌, inl, inr, refl}
use Rattle.std.proofs.lemmas.List.{get_or-set_same, length-set}
use Rattle.bounded_history.specs.declared.changes.Changes.{Changes}
use Rattle.bounded_history.specs.Telling.{HaveRoom, Tells, entries_in, entry_count, told_at}
use Rattle.bounded_history.proofs.Lists.{all_set}
use Rattle.bounded_history.proofs.Counts.{all_at, count_below, room_few}
use Rattle.bounded_history.proofs.Room.{counted, longest_reduced, no_room, room_by_count, room_by_longest, room_by_none, room_left, total_left}
use Rattle.bounded_history.proofs.pool.Pool.reduce.Goals as goal
use Rattle.bounded_history.proofs.pool.Pool.reduce.Goals.{then-before-le2-via-then-before-le2, then-before-le2-via-else-before-le2+then-number-len}

pub returns-then-self-clause-reduced : goal.returns-then-self-clause-reduced
returns-then-self-clause-reduced c = λ told near.
    let room : HaveRoom c.args.self.now.most c.args.self.now.lists.items = room_by_count c.args.self.now.most c.args.self.now.count c.args.self.now.lists.items near.count c.if-self.true in
    (record { all = near.all; count = near.count; small = near.small; room = room; few = room_few c.args.self.now.most c.args.self.now.lists.items room }, inl (room, refl))

pub returns-then-before-le2-clause-reduced : goal.returns-then-before-le2-clause-reduced
returns-then-before-le2-clause-reduced c = λ told near.
    let room : HaveRoom c.args.self.now.most c.args.self.now.lists.items = elim c.then-before-le2.branch [
      | then-before-le2-via-then-before-le2 w ↦
          room_by_longest c.args.self.now.most c.longest-number.result.0 c.longest-number.result.1 c.args.self.now.lists.items c.longest-number.ensures.longest c.longest-number.ensures.count w.if-before-le2.true
      | then-before-le2-via-else-before-le2+then-number-len w ↦
          room_by_none c.args.self.now.most c.longest-number.result.0 c.longest-number.result.1 c.args.self.now.lists.items c.longest-number.ensures.longest c.longest-number.ensures.count
          (omega (arith, c.args.self.now.lists.ok.0, w.if-number-len.true, w.len.ensures))
    ] in
    (record { all = near.all; count = near.count; small = near.small; room = room; few = room_few c.args.self.now.most c.args.self.now.lists.items room }, inl (room, refl))

pub returns-clause-reduced : goal.returns-clause-reduced
returns-clause-reduced c = λ told near.
    let lists : List Changes = c.args.self.now.lists.items in
    let within : c.longest-number.result.0 < length lists = omega (arith, c.args.self.now.lists.ok.0, c.if-number-len.false, c.len.ensures) in
    let old_tells : Tells c.index_mut.result.now (told_at c.longest-number.result.0 told) = all_at lists told c.longest-number.result.0 c.index_mut.result.now within c.index_mut.ensures.value near.all in
    let tells : Tells c.halve.new.self (told_at c.longest-number.result.0 told) = c.in_ok-halve.ensures.told (told_at c.longest-number.result.0 told) old_tells in
    let room : HaveRoom c.args.self.now.most (set lists c.longest-number.result.0 c.halve.new.self) =
    room_left lists told c.longest-number.result.0 c.longest-number.result.1 c.index_mut.result.now c.halve.new.self within c.index_mut.ensures.value
    c.longest-number.ensures.count (omega (arith, c.if-before-le2.false)) tells (c.in_ok-halve.ensures.least (told_at c.longest-number.result.0 told) old_tells) c.args.self.now.most near.near in
    let after : c.count-after.result ≡ entry_count c.halve.new.self =
    subst (λ list. c.count-after.result ≡ entry_count list) (c.index.ensures ∙ get_or-set_same lists c.longest-number.result.0 c.halve.new.self c.index.result.now within) c.count-after.ensures in
    let few : entries_in (set lists c.longest-number.result.0 c.halve.new.self) ≤ max c.args.self.now.most (2 * length (set lists c.longest-number.result.0 c.halve.new.self)) =
    room_few c.args.self.now.most (set lists c.longest-number.result.0 c.halve.new.self) room in
    let total : entries_in (set lists c.longest-number.result.0 c.halve.new.self) + c.longest-number.result.1 ≡ entries_in lists + entry_count c.halve.new.self =
    total_left lists told c.longest-number.result.0 c.longest-number.result.1 c.index_mut.result.now c.halve.new.self within c.index_mut.ensures.value
    c.longest-number.ensures.count (omega (arith, c.if-before-le2.false)) tells (c.in_ok-halve.ensures.least (told_at c.longest-number.result.0 told) old_tells) in (
      record {
        all = all_set lists told c.longest-number.result.0 c.index_mut.result.now c.halve.new.self within c.index_mut.ensures.value (λ it old. c.in_ok-halve.ensures.told it old) near.all;
        count = counted c.args.self.now.count c.longest-number.result.1 c.count-after.result c.saturating_sub.result c.saturating_add-self.result c.args.self.now.most (length lists)
            lists (set lists c.longest-number.result.0 c.halve.new.self) near.count
            (omega (arith, c.longest-number.ensures.count, count_below lists c.longest-number.result.0)) c.saturating_sub.ensures c.saturating_add-self.ensures
            (omega (arith, total, after)) near.small (omega (arith, few, length-set lists c.longest-number.result.0 c.halve.new.self))
            (omega (arith, c.args.self.now.lists.ok.0, c.args.self.now.lists.ok.1, c.args.self.now.lists.small));
        small = near.small;
        room = room;
        few = few;
      },
      inr (
        no_room c.args.self.now.most c.args.self.now.count c.longest-number.result.0 c.longest-number.result.1 lists near.count c.longest-number.ensures.count
            (omega (arith, c.if-self.false)) (omega (arith, c.if-before-le2.false)),
        longest_reduced lists told c.longest-number.result.0 c.longest-number.result.1 c.index_mut.result.now c.halve.new.self within c.index_mut.ensures.value
            c.longest-number.ensures.count (omega (arith, c.if-before-le2.false)) tells (c.in_ok-halve.ensures.least (told_at c.longest-number.result.0 told) old_tells) c.longest-number.ensures.longest,
      ),
    )
