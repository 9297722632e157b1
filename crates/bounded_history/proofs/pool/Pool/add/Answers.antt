use Rattle.std.proofs.Common.{subst}
use Rattle.std.proofs.lemmas.Result.{on_ok_weaker}
use Rattle.bounded_history.specs.Telling.{IsReduced, lists_of, told_to}
use Rattle.bounded_history.proofs.pool.Pool.add.Goals as goal

pub returns-clause-told : goal.returns-clause-told
returns-clause-told c = λ told tells.
    on_ok_weaker c.reduce.result (λ reduced. reduced.0) (c.reduce.ensures.reduced (told_to c.args.number c.args.entry told) (c.in_ok-add_to_list.ensures.told told tells))

pub returns-clause-room : goal.returns-clause-room
returns-clause-room c = λ told tells.
    on_ok_weaker c.reduce.result (λ reduced. record {
      between = lists_of c.add_to_list.new.self;
      tell = (c.in_ok-add_to_list.ensures.told told tells).all;
      same = c.in_ok-add_to_list.ensures.same;
      made = subst (λ most. IsReduced most (told_to c.args.number c.args.entry told) (lists_of c.add_to_list.new.self) (lists_of c.reduce.new.self)) c.in_ok-add_to_list.ensures.most reduced.1;
    })
    (c.reduce.ensures.reduced (told_to c.args.number c.args.entry told) (c.in_ok-add_to_list.ensures.told told tells))
