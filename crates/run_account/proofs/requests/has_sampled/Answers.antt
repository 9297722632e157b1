use Rattle.std.proofs.Common.{◌≡◌, ◌+◌, ◌∙◌, suc, ap, sym, arith, drop, is_some, rules}
use Rattle.run_account.specs.Samples.{requests_of, sampled_from}
use Rattle.run_account.proofs.Taking.{found_here, none_disabled, not_here}
use Rattle.run_account.proofs.requests.has_sampled.Goals as goal

pub returns-then-is_some : goal.returns-then-is_some
returns-then-is_some c =
    sym (found_here (requests_of c.args.requests.now) c.args.checker.now c.args.checker.now.points c.loop-rule.rule c.loop-rule.rule (omega (arith, c.loop-rule-test.true, c.rule_count-rule-end.ensures.points))
    (ap is_some (sym c.sampled_result.ensures) ∙ sym c.is_some.ensures ∙ c.if-is_some.true))
    ∙ c.loop-rule.invariant

pub loop-rule-preserved : goal.loop-rule-preserved
loop-rule-preserved c =
    let next : c.loop-rule.rule + 1 ≡ suc c.loop-rule.rule = omega arith in
    ap (λ n. sampled_from (requests_of c.args.requests.now) c.args.checker.now (c.loop-rule.rule + 1) (drop n c.args.checker.now.points)) next
    ∙ sym (not_here (requests_of c.args.requests.now) c.args.checker.now c.args.checker.now.points c.loop-rule.rule c.loop-rule.rule (omega (arith, c.loop-rule-test.true, c.rule_count-rule-end.ensures.points))
    (ap is_some (sym c.sampled_result.ensures) ∙ sym c.is_some.ensures ∙ c.if-is_some.false))
    ∙ c.loop-rule.invariant

pub returns-then-not-is_mode_on : goal.returns-then-not-is_mode_on
returns-then-not-is_mode_on c = sym (none_disabled (requests_of c.args.requests.now) c.args.checker.now 0 c.args.checker.now.points (search rules))
