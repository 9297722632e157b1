use Rattle.std.proofs.Common.{◌∙◌}
use Rattle.rule_analysis.proofs.ClassLaws.{five_by}
use Rattle.rule_analysis.proofs.thresholds.thresholds.Goals as goal

pub returns : goal.returns
returns c =
    five_by c.args.term.now c.from-sign.result c.first_from.result c.first_above.result c.first_from-2.result c.first_above-2.result
    (c.from-sign.ensures ∙ c.sign_weight.ensures) c.first_from.ensures c.first_above.ensures c.first_from-2.ensures c.first_above-2.ensures
