use Rattle.event_service.proofs.Stays.{asked}
use Rattle.lc_model.proofs.Services.SenderLaws.{events_keep}
use Rattle.event_service.proofs.service.Events.send.Goals as goal

pub invariant_of-self-in-Some-index_mut : goal.invariant_of-self-in-Some-index_mut
invariant_of-self-in-Some-index_mut c = (
  asked c.self.inside.host c.self.inside.places.items c.self.inside.sent c.self.invariant.0 c.index.result c.index.ensures.below c.index_mut.result.now c.index_mut.ensures.value
      events_keep c.args.moment c.args.id c.args.kind c.args.text.now c.in-Some-index_mut.sender _ _ c.in-Some-index_mut.is
      c.ask-in-Some-index_mut.ensures.events c.ask-in-Some-index_mut.ensures.sent,
  c.self.invariant.1,
)
