use Rattle.std.proofs.Common.{◌≡◌, ◌∙◌, sym, subst, arith, rules}
use Rattle.std.specs.List.{AllByRecursion}
use Rattle.run_account.specs.Repeats.{IsOnTime}
use Rattle.run_account.proofs.Repeating.{each_in_time, lanes_none, noted_all_in_time}
use Rattle.run_account.proofs.repeats.Repeats.is_on_time.Goals as goal

pub returns-then-self-eq0 : goal.returns-then-self-eq0
returns-then-self-eq0 c = λ is.
    subst (AllByRecursion (IsOnTime c.args.results.now c.args.clock.now)) (sym (lanes_none c.args.self.count c.args.self.last c.args.self.allowed c.args.results.now c.args.lanes.now (search rules)))
    (each_in_time c.args.results.now c.args.clock.now c.args.lanes.now (sym c.are_on_time.ensures ∙ is))

pub returns : goal.returns
returns c = λ is.
    noted_all_in_time c.args.self.count c.args.self.last c.args.self.allowed c.saturating_sub.result c.args.results.now c.args.clock.now c.args.lanes.now (omega (arith, c.if-self-eq0.false)) c.saturating_sub.ensures is
