use Rattle.std.proofs.Common.{List, ◌≡◌, ◌<◌, set, length, arith, subst, ◌∙◌}
use Rattle.std.proofs.lemmas.List.{get_or-set_same, length-set}
use Rattle.bounded_history.specs.declared.changes.Changes.{Changes}
use Rattle.bounded_history.specs.Telling.{entry_count, count_at}
use Rattle.bounded_history.proofs.Lists.{all_told, all_beyond}
use Rattle.bounded_history.proofs.Counts.{count_below, count_is, doublings_same, entries_set}
use Rattle.bounded_history.proofs.Room.{NearRoom, counted, near_after, near_few, room_near}
use Rattle.bounded_history.proofs.pool.Pool.add_to_list.Goals as goal

pub returns-then-number-len-clause-told : goal.returns-then-number-len-clause-told
returns-then-number-len-clause-told c = λ told tells. record {
  all = all_beyond c.args.self.now.lists.items told c.args.number c.args.entry (omega (arith, c.args.self.now.lists.ok.0, c.if-number-len.true, c.len.ensures)) tells.all;
  count = tells.count;
  small = tells.small;
  near = room_near c.args.self.now.most c.args.self.now.lists.items tells.room;
}

pub returns-clause-told : goal.returns-clause-told
returns-clause-told c = λ told tells.
    let lists : List Changes = c.args.self.now.lists.items in
    let new : List Changes = set lists c.args.number c.add.new.self in
    let within : c.args.number < length lists = omega (arith, c.args.self.now.lists.ok.0, c.if-number-len.false, c.len.ensures) in
    let old_count : count_at c.args.number lists ≡ entry_count c.index_mut.result.now = count_is lists c.args.number c.index_mut.result.now within c.index_mut.ensures.value in
    let before : count_at c.args.number lists ≡ entry_count c.index.result.now = count_is lists c.args.number c.index.result.now within c.index.ensures in
    let after : c.count-after.result ≡ entry_count c.add.new.self =
    subst (λ list. c.count-after.result ≡ entry_count list) (c.index-2.ensures ∙ get_or-set_same lists c.args.number c.add.new.self c.index-2.result.now within) c.count-after.ensures in
    let near : NearRoom c.args.self.now.most new = near_after c.args.self.now.most lists c.args.number c.index_mut.result.now c.add.new.self within c.index_mut.ensures.value c.in_ok-add.ensures.count tells.room in
    record {
      all = all_told lists told c.args.number c.index_mut.result.now c.add.new.self c.args.entry within c.index_mut.ensures.value (λ it old. c.in_ok-add.ensures.told it old) tells.all;
      count = counted c.args.self.now.count c.count-before.result c.count-after.result c.saturating_sub.result c.saturating_add-self.result c.args.self.now.most (length lists)
          lists new tells.count (omega (arith, c.count-before.ensures, before, count_below lists c.args.number)) c.saturating_sub.ensures c.saturating_add-self.ensures
          (omega (arith, entries_set lists c.args.number c.add.new.self within, after, before, c.count-before.ensures)) tells.small
          (omega (arith, near_few c.args.self.now.most new near, length-set lists c.args.number c.add.new.self))
          (omega (arith, c.args.self.now.lists.ok.0, c.args.self.now.lists.ok.1, c.args.self.now.lists.small));
      small = tells.small;
      near = near;
    }

pub returns-clause-same : goal.returns-clause-same
returns-clause-same c = λ number.
    doublings_same c.args.self.now.lists.items c.args.number c.index_mut.result.now c.add.new.self c.index_mut.ensures.value c.in_ok-add.ensures.doublings number
