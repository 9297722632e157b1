use Rattle.lc_model.specs.Rule.{rule_of}
use Rattle.rule_changes.proofs.Matched.{kept_is}
use Rattle.rule_changes.proofs.matching.kept_rule.Goals as goal

pub returns : goal.returns
returns c =
    kept_is c.args.old.now c.args.number c.index-old-number.result (rule_of c.args.rule.now) c.parts_of.result c.in_ok-settle.field-0 c.requires
    c.index-old-number.is c.parts_of.ensures c.in_ok-settle.ensures
