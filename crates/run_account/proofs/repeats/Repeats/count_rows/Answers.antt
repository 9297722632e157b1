use Rattle.std.proofs.Common.{rules, sym}
use Rattle.run_account.proofs.Repeating.{rows_none}
use Rattle.run_account.proofs.repeats.Repeats.count_rows.Goals as goal

pub returns-then-self-eq0 : goal.returns-then-self-eq0
returns-then-self-eq0 c = sym (rows_none c.args.self.count c.args.self.force c.args.results.now c.args.rows.now (search rules))
