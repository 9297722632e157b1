use Rattle.std.proofs.Common.{◌+◌, sym, subst, arith}
use Rattle.bounded_history.proofs.Counts.{IsSoFar, is_longest, longest_more, longest_stays}
use Rattle.bounded_history.proofs.pool.Pool.longest.Goals as goal
use Rattle.bounded_history.proofs.pool.Pool.longest.Goals.{then-count-most, else-count-most}

pub loop-number-preserved : goal.loop-number-preserved
loop-number-preserved c = elim c.if-count-most.branch [
  | then-count-most w ↦
      subst (λ longest. IsSoFar c.args.self.now.lists.items (c.loop-number.number + 1) longest c.if-count-most.most) (sym w.longest-is)
      (subst (IsSoFar c.args.self.now.lists.items (c.loop-number.number + 1) c.loop-number.number) (sym w.most-is)
      (longest_more c.args.self.now.lists.items c.loop-number.number c.loop-number.most c.count-count.result c.index.result.now
      (omega (arith, c.loop-number-test.true, c.len-number-end.ensures, c.args.self.now.lists.ok.0)) c.index.ensures c.count-count.ensures
      w.if-count-most.true c.loop-number.invariant.1))
  | else-count-most w ↦
      subst (λ longest. IsSoFar c.args.self.now.lists.items (c.loop-number.number + 1) longest c.if-count-most.most) (sym w.longest-is)
      (subst (IsSoFar c.args.self.now.lists.items (c.loop-number.number + 1) c.loop-number.longest) (sym w.most-is) (
        c.loop-number.invariant.0,
        longest_stays c.args.self.now.lists.items c.loop-number.number c.loop-number.most c.count-count.result c.index.result.now
            (omega (arith, c.loop-number-test.true, c.len-number-end.ensures, c.args.self.now.lists.ok.0)) c.index.ensures c.count-count.ensures
            w.if-count-most.false c.loop-number.invariant.1,
        c.loop-number.invariant.2,
      ))
]

pub returns-clause-longest : goal.returns-clause-longest
returns-clause-longest c =
    (is_longest c.args.self.now.lists.items c.loop-number.longest c.loop-number.most c.loop-number.invariant.0
    (λ other within. c.loop-number.invariant.1 other (omega (arith, within, c.loop-number-test.false, c.len-number-end.ensures, c.args.self.now.lists.ok.0)))
    c.loop-number.invariant.2).0

pub returns-clause-count : goal.returns-clause-count
returns-clause-count c =
    (is_longest c.args.self.now.lists.items c.loop-number.longest c.loop-number.most c.loop-number.invariant.0
    (λ other within. c.loop-number.invariant.1 other (omega (arith, within, c.loop-number-test.false, c.len-number-end.ensures, c.args.self.now.lists.ok.0)))
    c.loop-number.invariant.2).1
