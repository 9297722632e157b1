use Rattle.event_service.proofs.Stays.{unregistered}
use Rattle.lc_model.proofs.Services.SenderLaws.{unregistering_keeps}
use Rattle.event_service.proofs.service.Events.unregister.Goals as goal

pub invariant_of-self-2 : goal.invariant_of-self-2
invariant_of-self-2 c = (
  unregistered c.self.inside.host c.self.inside.places.items c.self.inside.sent c.self.invariant.0 c.index.result c.index.ensures.below c.index_mut-place.result.now c.index_mut-place.ensures.value
      unregistering_keeps c.if-is_none.ensures,
  c.self.invariant.1,
)
