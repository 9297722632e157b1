use Rattle.std.proofs.Common.{Some}
use Rattle.run_account.specs.Samples.{requests_of}
use Rattle.run_account.proofs.Repeating.{FirstResults}
use Rattle.run_account.proofs.repeats.are_those.Given as goal

abbrev pub invariant-loop-rule : goal.invariant-loop-rule
invariant-loop-rule l = FirstResults (requests_of l.requests) (Some l.engine) l.results l.rule
