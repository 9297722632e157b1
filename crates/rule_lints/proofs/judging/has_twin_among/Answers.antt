use Rattle.std.proofs.Common.{◌∙◌}
use Rattle.rule_parser.specs.Syntax.{items_of}
use Rattle.rule_lints.proofs.Twins.{twin_among}
use Rattle.rule_lints.proofs.judging.has_twin_among.Goals as goal

pub returns : goal.returns
returns c = c.has_twin.ensures ∙ twin_among (items_of c.args.items.now) c.args.pairs.now c.args.alike.now c.args.number c.requires
