use Rattle.std.proofs.Common.{◌≡◌, ◌∙◌, ◌++◌, [], ◌∷◌, ap, subst, sym, List}
use Rattle.bounded_history.specs.declared.changes.Changes.{Changes}
use Rattle.bounded_history.specs.Telling.{AllTell, HaveRoom, doublings_at, entries_in}
use Rattle.bounded_history.proofs.Lists.{all_more}
use Rattle.bounded_history.proofs.Counts.{doublings_more, none_more, room_few, room_more}
use Rattle.bounded_history.proofs.pool.Pool.push.Goals as goal

pub returns-clause-told : goal.returns-clause-told
returns-clause-told c = λ told tells.
    let new : c.push.new.self.items ≡ c.args.self.now.lists.items ++ c.new.result ∷ [] = c.in_ok-push.ensures.items in
    let room : HaveRoom c.args.self.now.most c.push.new.self.items = subst (HaveRoom c.args.self.now.most) (sym new) (room_more c.args.self.now.most c.args.self.now.lists.items c.new.result c.new.ensures.told tells.room) in
    record {
      all = subst (λ (lists : List Changes). AllTell lists (told ++ [] ∷ [])) (sym new) (all_more c.args.self.now.lists.items told c.new.result tells.all c.new.ensures.told);
      count = tells.count ∙ sym (none_more c.args.self.now.lists.items c.new.result c.new.ensures.told) ∙ ap entries_in (sym new);
      small = tells.small;
      room = room;
      few = room_few c.args.self.now.most c.push.new.self.items room;
    }

pub returns-clause-same : goal.returns-clause-same
returns-clause-same c = λ number.
    ap (λ lists. doublings_at number lists) c.in_ok-push.ensures.items ∙ doublings_more c.args.self.now.lists.items c.new.result c.new.ensures.doublings number
