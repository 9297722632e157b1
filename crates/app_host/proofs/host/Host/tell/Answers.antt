use Rattle.std.proofs.Common.{refl}
use Rattle.app_host.proofs.OwnEvents.{has_told}
use Rattle.lc_model.proofs.Services.TableNames.{tables_are_found}
use Rattle.app_host.proofs.host.Host.tell.Goals as goal

pub returns : goal.returns
returns g c =
    has_told tables_are_found _ _ _ (rw c.as_bytes.ensures.bytes at c.tell.ensures.told) c.is_service.ensures c.requires.seated c.requires.idle refl refl refl refl
    c.tell.ensures.events (rw c.as_bytes.ensures.bytes at c.tell.ensures.outgoing) c.tell.ensures.counts c.tell.ensures.size
