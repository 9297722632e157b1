use Rattle.std.proofs.Common.{refl, ◌∙◌}
use Rattle.app_host.proofs.Told.{told_there, one_or_none}
use Rattle.lc_model.proofs.Services.SenderLaws.{events_by_name}
use Rattle.app_host.proofs.services.Services.tell.Goals as goal

pub returns-clause-told : goal.returns-clause-told
returns-clause-told c =
    told_there c.args.self.now.moment c.args.id c.args.kind c.args.text.now c.args.from c.args.self.now _ _
    events_by_name (record { seats = c.is_service.ensures.seats; names = c.is_service.ensures.names; count = c.is_service.ensures.count }) refl c.send.ensures.events
    refl
    (c.send.ensures.packet ∙ one_or_none c.args.self.now.outgoing _)
    refl refl refl refl

pub returns-clause-outgoing : goal.returns-clause-outgoing
returns-clause-outgoing c = c.send.ensures.packet ∙ one_or_none c.args.self.now.outgoing _
