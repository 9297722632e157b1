use Rattle.std.proofs.Common.{rules}
use Rattle.event_service.proofs.Stays.{changed}
use Rattle.lc_model.proofs.Services.SenderLaws.{with_events_keeps}
use Rattle.event_service.proofs.service.Events.change.Goals as goal

pub invariant_of-self-2 : goal.invariant_of-self-2
invariant_of-self-2 c = (
  changed c.self.inside.host c.self.inside.places.items c.self.inside.sent c.in-Some.place c.index_mut.result.now c.in-Some-index_mut.sender c.change-2.new.self
      with_events_keeps c.self.invariant.0 (search rules) c.index_mut.ensures.value c.in-Some-index_mut.is c.change-2.ensures.name,
  c.self.invariant.1,
)
