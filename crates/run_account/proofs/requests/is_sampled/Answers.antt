use Rattle.std.proofs.Common.{sym, option_map}
use Rattle.run_account.specs.Samples.{requests_of}
use Rattle.run_account.proofs.Taking.{none_sampled}
use Rattle.run_account.proofs.requests.is_sampled.Goals as goal

pub returns-then-is_nothing : goal.returns-then-is_nothing
returns-then-is_nothing c = sym (none_sampled (requests_of c.args.requests.now) (option_map (λ engine. engine.now) c.args.engine) (c.is_nothing.ensures c.if-is_nothing.true))
