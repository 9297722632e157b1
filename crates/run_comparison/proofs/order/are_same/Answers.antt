use Rattle.std.proofs.Common.{rules}
use Rattle.run_comparison.proofs.Lists.{not_as_long}
use Rattle.run_comparison.proofs.order.are_same.Goals as goal

pub returns-then-these-those : goal.returns-then-these-those
returns-then-these-those c = not_as_long c.args.these.now c.args.those.now (search rules)
