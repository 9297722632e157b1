use Rattle.app_host.proofs.Resubscribed.{AreUnsubscribed}
use Rattle.app_host.proofs.resubscribing.unsubscribe.Given as goal

abbrev pub invariant-loop-message_id : goal.invariant-loop-message_id
invariant-loop-message_id l = AreUnsubscribed l.seat l.message_id-index l.message_ids l.initial.bus l.bus
