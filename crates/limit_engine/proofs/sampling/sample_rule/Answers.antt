use Rattle.std.proofs.Common.{◌+◌, arith}
use Rattle.limit_engine.proofs.Noting.{below_more}
use Rattle.limit_engine.proofs.sampling.sample_rule.Goals as goal

pub returns-then-store_quiet-clause-order : goal.returns-then-store_quiet-clause-order
returns-then-store_quiet-clause-order c = λ order. below_more 0 c.args.rule (c.args.rule + 1) c.args.asked.now.items (omega arith) order
