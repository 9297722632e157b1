use Rattle.std.proofs.Common.{rules, sym}
use Rattle.run_account.proofs.Repeating.{lanes_none}
use Rattle.run_account.proofs.repeats.Repeats.count_lanes.Goals as goal

pub returns-then-self-eq0 : goal.returns-then-self-eq0
returns-then-self-eq0 c = sym (lanes_none c.args.self.count c.args.self.last c.args.self.allowed c.args.results.now c.args.lanes.now (search rules))
