use Rattle.app_host.proofs.Seats.{AreSubscribed}
use Rattle.app_host.proofs.seat.subscribe.Given as goal

abbrev pub invariant-loop-message_id : goal.invariant-loop-message_id
invariant-loop-message_id l = AreSubscribed l.seat l.message_id-index l.message_ids l.initial.bus l.bus
