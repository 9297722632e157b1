use Rattle.std.proofs.Common.{rules}
use Rattle.event_service.proofs.Stays.{registered}
use Rattle.lc_model.proofs.Services.SenderLaws.{registering_keeps}
use Rattle.event_service.proofs.service.Events.register.Goals as goal

pub invariant_of-self-2 : goal.invariant_of-self-2
invariant_of-self-2 c = (
  registered c.self.inside.host c.self.inside.places.items c.self.inside.sent c.self.invariant.0 c.index.result c.index.ensures.below c.index_mut-place.result.now c.index_mut-place.ensures.value
      registering_keeps c.args.name.now c.place_of.result c.new.result (search rules) (search rules) (search rules) c.if-is_some-2.ensures c.new.ensures,
  c.self.invariant.1,
)
