use Rattle.event_service.proofs.TypesAmong.{IsNotBefore}
use Rattle.event_service.proofs.service.is_type_on_among.Given as goal

abbrev pub invariant-loop-place : goal.invariant-loop-place
invariant-loop-place l = IsNotBefore l.places l.name l.place-index
