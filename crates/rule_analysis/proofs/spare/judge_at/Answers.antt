use Rattle.lc_model.specs.Rule.{rules_of}
use Rattle.rule_analysis.proofs.SpareLaws.{again_is_told, new_is_told, there}
use Rattle.rule_analysis.proofs.OrderLaws.{none_is_told, one_is_told}
use Rattle.rule_analysis.proofs.spare.judge_at.Goals as goal

pub returns-then-is_again-clause-told : goal.returns-then-is_again-clause-told
returns-then-is_again-clause-told c = λ told.
    again_is_told c.args.unsettled.now (rules_of c.args.rules.now) c.args.spare.now.items c.args.rule c.args.terms.now c.args.at told (c.is_again.ensures.again c.if-is_again.true)

pub returns-clause-told : goal.returns-clause-told
returns-clause-told c = λ told.
    new_is_told c.args.unsettled.now c.judge_term.new.unsettled (rules_of c.args.rules.now) c.args.spare.now.items c.judge_term.new.spare.items c.args.rule c.args.terms.now c.args.at _ c.requires.at
    c.in_ok-judge_term.ensures.grows c.in_ok-judge_term.ensures.kept told c.in_ok-judge_term.ensures.told

pub returns-then-is_again-clause-once : goal.returns-then-is_again-clause-once
returns-then-is_again-clause-once c = λ are. none_is_told c.args.spare.now.items c.args.rule c.args.terms.now c.args.at are

pub returns-clause-once : goal.returns-clause-once
returns-clause-once c = λ are.
    one_is_told c.args.spare.now.items c.judge_term.new.spare.items c.args.rule c.args.terms.now c.args.at _ (there c.args.terms.now c.args.at _ c.requires.at)
    (c.is_again.ensures.first c.if-is_again.false) c.in_ok-judge_term.ensures.once are
