use Rattle.std.proofs.Common.{◌≡◌, true, false, nat_le, ap, ◌∙◌, arith}
use Rattle.lc_model.specs.LimitChecker.Steps.{Point}
use Rattle.lc_model.specs.Kept.Summary.{Tally}
use Rattle.lc_model.specs.Kept.Next.{tally_after, next_turn_reports}
use Rattle.limit_engine.specs.Entry.{rule_with}
use Rattle.limit_engine.proofs.Reacting.{reacted_not, reacted_enough}
use Rattle.limit_engine.proofs.actionpoint.Point.react.Goals as goal

pub returns-then-self-rule-clause-requests : goal.returns-then-self-rule-clause-requests
returns-then-self-rule-clause-requests c = λ n condition.
    let run = ap (λ (p : Point Tally). p.past.run) c.self-2.view_is ∙ ap (λ (t : Tally). t.run) c.count.ensures.past in
    let few : nat_le c.args.rule.now.fails (tally_after c.args.rule.now.fails c.args.outcome c.args.self.now.state c.args.self.now.past).run ≡ false =
    grind (arith, run, c.if-self-rule.true) in
    reacted_not (rule_with c.args.rule.now condition) n c.args.mode c.args.outcome c.args.self.now c.turn-turn.result _ c.count.ensures.past (c.turn-turn.ensures n condition
    ∙ ap (λ (p : Point Tally). next_turn_reports (rule_with c.args.rule.now condition) n p.past.last c.args.outcome c.count.new.self.past) c.self.view_is) few

pub returns-clause-requests : goal.returns-clause-requests
returns-clause-requests c = λ n condition.
    let run = ap (λ (p : Point Tally). p.past.run) c.self-2.view_is ∙ ap (λ (t : Tally). t.run) c.count.ensures.past in
    let many : nat_le c.args.rule.now.fails (tally_after c.args.rule.now.fails c.args.outcome c.args.self.now.state c.args.self.now.past).run ≡ true =
    grind (arith, run, c.if-self-rule.false) in
    reacted_enough (rule_with c.args.rule.now condition) n c.args.mode c.args.outcome c.args.self.now c.turn-turn.result _ c.count.ensures.past (c.turn-turn.ensures n condition
    ∙ ap (λ (p : Point Tally). next_turn_reports (rule_with c.args.rule.now condition) n p.past.last c.args.outcome c.count.new.self.past) c.self.view_is)
    c.fail.result _ c.count.ensures.state many (c.fail.ensures.requests n condition)
