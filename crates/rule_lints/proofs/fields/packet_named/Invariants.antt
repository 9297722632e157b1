use Rattle.std.proofs.Common.{◌≡◌, drop}
use Rattle.lc_model.specs.Text.Meaning as meaning
use Rattle.rule_parser.specs.Syntax.{items_of, name_of}
use Rattle.rule_lints.proofs.fields.packet_named.Given as goal

abbrev pub invariant-loop-item : goal.invariant-loop-item
invariant-loop-item l =
    meaning.packet_named (items_of l.items) (name_of l.name) ≡ meaning.packet_named (items_of (drop l.item-index l.items)) (name_of l.name)
