use Rattle.std.proofs.Common.{◌∙◌, ap}
use Rattle.std.specs.BTreeMap.{get_by}
use Rattle.field_checker.specs.Index.{is_before}
use Rattle.field_checker.proofs.Keys.{compares_as}
use Rattle.field_checker.proofs.names.Names.is_rule_before.Goals as goal

pub returns-in-Some : goal.returns-in-Some
returns-in-Some c =
    ap (λ o. is_before o c.args.name.at)
    (c.in-Some.ensures.value
    ∙ ap (λ compare. get_by compare c.args.self.now.index.rules) (compares_as c.args.name.text.now c.key.result c.key.ensures.number c.key.ensures.bytes))

pub returns-in-None : goal.returns-in-None
returns-in-None c =
    ap (λ o. is_before o c.args.name.at)
    (c.in-None.ensures.value
    ∙ ap (λ compare. get_by compare c.args.self.now.index.rules) (compares_as c.args.name.text.now c.key.result c.key.ensures.number c.key.ensures.bytes))
