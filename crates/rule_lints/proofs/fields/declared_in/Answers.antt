use Rattle.std.proofs.Common.{◌∙◌, ap, sym, option_map}
use denote.Ref.{Bor}
use Rattle.rule_parser.specs.declared.syntax.PacketItem.{PacketItem}
use Rattle.rule_parser.specs.Syntax.{items_of, name_of, packet_of}
use Rattle.rule_lints.proofs.Meeting.{short_id}
use Rattle.rule_lints.proofs.fields.declared_in.Goals as goal

pub bits_of-requires : goal.bits_of-requires
bits_of-requires c =
    short_id (items_of c.args.items.now) (name_of c.args.field.now.packet) (packet_of c.in-Some.packet.now) c.requires
    (sym c.packet_named.ensures ∙ ap (option_map (λ (p : Bor PacketItem). packet_of p.now)) c.in-Some.is)
