use Rattle.std.proofs.Common.{◌∙◌, ap}
use Rattle.std.specs.BTreeMap.{get_by}
use Rattle.field_checker.proofs.Keys.{compares_as}
use Rattle.field_checker.proofs.names.Names.declarations_of.Goals as goal

pub returns : goal.returns
returns c =
    c.get.ensures.value
    ∙ ap (λ compare. get_by compare c.args.self.now.index.named) (compares_as c.args.name.text.now c.key.result c.key.ensures.number c.key.ensures.bytes)
