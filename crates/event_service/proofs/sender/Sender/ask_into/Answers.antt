use Rattle.std.proofs.Common.{◌∙◌, ◌+◌, take}
use Rattle.event_service.proofs.Behind.{sent_behind}
use Rattle.event_service.proofs.sender.Sender.ask_into.Goals as goal

pub returns-clause-packet : goal.returns-clause-packet
returns-clause-packet c =
    sent_behind c.args.moment c.args.id c.args.kind c.args.text.now (take c.args.at c.args.out.now.items) (take (c.args.at + 168) c.append_packet.new.out.items) _ _ _ _ _ c.if-not-admits.ensures.chosen c.next_count-count.ensures.count
    ((λ i. (c.self.view_is i).name) ∙ (λ i. (c.admits.ensures.after i).name)) c.append_packet.ensures.packet
