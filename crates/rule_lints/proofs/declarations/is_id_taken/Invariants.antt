use Rattle.std.proofs.Common.{◌≡◌, drop}
use Rattle.rule_parser.specs.Syntax.{items_of, packet_of}
use Rattle.rule_lints.specs.Items.{is_id_taken}
use Rattle.rule_lints.proofs.declarations.is_id_taken.Given as goal

abbrev pub invariant-loop-item : goal.invariant-loop-item
invariant-loop-item l = is_id_taken (items_of l.items) (packet_of l.packet) ≡ is_id_taken (items_of (drop l.item-index l.items)) (packet_of l.packet)
