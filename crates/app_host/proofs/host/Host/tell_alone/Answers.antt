use Rattle.app_host.proofs.OwnEvents.{told_so}
use Rattle.app_host.proofs.Responding.{responds_alone}
use Rattle.app_host.proofs.host.Host.tell_alone.Goals as goal

pub returns-clause-handled : goal.returns-clause-handled
returns-clause-handled g c = told_so _ _ _ _ _ _ c.requires.whole c.requires.quiet c.requires.none_yet c.tell.ensures c.flush.ensures.flushed c.flush.result c.flush.ensures.sent

pub returns-clause-own : goal.returns-clause-own
returns-clause-own g c = responds_alone _ _ _ _ _ _ c.requires.none_yet c.tell.ensures c.flush.ensures.flushed c.flush.result c.flush.ensures.sent
