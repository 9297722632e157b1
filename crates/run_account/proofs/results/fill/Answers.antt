use Rattle.std.proofs.Common.{◌≡◌, ◌+◌, ◌∙◌, ◌++◌, suc, arith, take, drop, slice_set, Some}
use Rattle.run_account.specs.Samples.{requests_of, result_of, results_from}
use Rattle.run_account.proofs.ResultLists.{one_more}
use Rattle.run_account.proofs.results.fill.Goals as goal

pub loop-rule-preserved : goal.loop-rule-preserved
loop-rule-preserved c =
    let next : c.loop-rule.rule + 1 ≡ suc c.loop-rule.rule = omega arith in
    (λ i.
    take (next i) (slice_set c.loop-rule.results c.loop-rule.rule (c.sampled_result.ensures i))
    ++ results_from (requests_of c.args.requests.now) (Some c.args.engine.now) (c.loop-rule.rule + 1) (drop (next i) (slice_set c.loop-rule.results c.loop-rule.rule (c.sampled_result.ensures i))))
    ∙ one_more (requests_of c.args.requests.now) (Some c.args.engine.now) c.loop-rule.rule c.loop-rule.results c.loop-rule.rule (omega (arith, c.loop-rule-test.true, c.loop-rule.auto.results, c.loop-rule.auto.rule-end))
    ∙ c.loop-rule.invariant
