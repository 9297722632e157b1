use Rattle.app_host.proofs.OwnEvents.{tells_same}
use Rattle.app_host.proofs.Responding.{responds_same}
use Rattle.app_host.proofs.host.Host.refuse_packet.Goals as goal

pub returns-clause-handled : goal.returns-clause-handled
returns-clause-handled g c = tells_same _ _ _ _ _ _ c.tell_alone.result (rw c.from.ensures at c.bad_packet-text.ensures) c.tell_alone.ensures.handled

pub returns-clause-own : goal.returns-clause-own
returns-clause-own g c = responds_same _ _ _ _ _ _ _ c.tell_alone.result (rw c.from.ensures at c.bad_packet-text.ensures) c.tell_alone.ensures.own
