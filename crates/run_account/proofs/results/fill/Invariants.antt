use Rattle.std.proofs.Common.{◌≡◌, ◌++◌, take, drop, Some}
use Rattle.run_account.specs.Samples.{requests_of, results_from}
use Rattle.run_account.proofs.results.fill.Given as goal

abbrev pub invariant-loop-rule : goal.invariant-loop-rule
invariant-loop-rule l =
    take l.rule l.results ++ results_from (requests_of l.requests) (Some l.engine) l.rule (drop l.rule l.results)
    ≡ results_from (requests_of l.requests) (Some l.engine) 0 l.initial.results
