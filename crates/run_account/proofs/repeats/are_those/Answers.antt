use Rattle.std.proofs.Common.{◌≡◌, ◌∙◌, sym, arith, rules, Some}
use Rattle.run_account.specs.Samples.{requests_of}
use Rattle.run_account.proofs.Repeating.{all_results, one_result_more}
use Rattle.run_account.proofs.repeats.are_those.Goals as goal

pub loop-rule-init : goal.loop-rule-init
loop-rule-init c = λ rule less. absurd (omega (arith, less))

pub loop-rule-preserved : goal.loop-rule-preserved
loop-rule-preserved c =
    one_result_more (requests_of c.args.requests.now) (Some c.args.engine.now) c.args.results.now c.loop-rule.rule c.loop-rule.invariant
    (sym c.found_at.ensures ∙ c.is_same.ensures (search rules) ∙ c.sampled_result.ensures)

pub returns : goal.returns
returns c = λ is.
    all_results (requests_of c.args.requests.now) c.args.engine.now c.args.results.now c.loop-rule.rule c.loop-rule.invariant (omega (arith, c.loop-rule-test.false))
    (omega (arith, c.if-results-rule_count.false, c.rule_count.ensures.points))
