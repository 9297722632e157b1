use Rattle.std.proofs.Common.{◌≡◌, drop}
use Rattle.run_account.specs.Samples.{requests_of, sampled_from}
use Rattle.run_account.proofs.requests.has_sampled.Given as goal

abbrev pub invariant-loop-rule : goal.invariant-loop-rule
invariant-loop-rule l =
    sampled_from (requests_of l.requests) l.checker l.rule (drop l.rule l.checker.points) ≡ sampled_from (requests_of l.requests) l.checker 0 l.checker.points
