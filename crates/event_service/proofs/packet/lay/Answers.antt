use Rattle.std.proofs.Common.{◌∙◌, ap, List, ℕ}
use Rattle.event_service.specs.Packet.{laid}
use Rattle.event_service.proofs.Joined.{written}
use Rattle.event_service.proofs.packet.lay.Goals as goal

pub returns-clause-packet : goal.returns-clause-packet
returns-clause-packet c =
    written c.args.count c.args.moment c.args.sender.now c.args.text.now c.args.id c.code.result c.args.kind c.code.ensures c.field.ensures.short c.requires.text
    _ _ _ _ _ _ _ _ _ _ _ _ c.requires.blank c.put_u16.ensures.field c.put_u16-2.ensures.field c.put_u16-3.ensures.field c.put_u32.ensures.field c.put_u16-4.ensures.field
    (c.put.ensures.field ∙ ap (λ (field : List ℕ). laid 12 field c.put_u16-4.new.bytes) c.field.ensures.field) c.put_u16-5.ensures.field c.put_u16-6.ensures.field c.put_u32-2.ensures.field c.put_u32-3.ensures.field c.put-2.ensures.field
