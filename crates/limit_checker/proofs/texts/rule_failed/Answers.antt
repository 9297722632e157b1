use Rattle.limit_checker.proofs.RuleTexts.{in_parts}
use Rattle.limit_checker.proofs.texts.rule_failed.Goals as goal

pub returns : goal.returns
returns c =
    in_parts c.args.own.now c.args.point c.args.run c.args.sequence c.from.result c.from-2.result c.from-3.result _ _ _ _ _ _ _
    c.from.ensures c.from-2.ensures c.from-3.ensures c.of-text.ensures c.push.ensures.text c.push_number.ensures.text c.push-2.ensures.text c.push_number-2.ensures.text
    c.push-3.ensures.text c.push_number-3.ensures.text
