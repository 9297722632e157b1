use Rattle.std.proofs.Common.{refl}
use Rattle.app_host.specs.Shared.{shared}
use Rattle.app_host.proofs.host.Host.is_type_on.Goals as goal

pub returns : goal.returns
unfolding shared
returns g c = c.is_type_on.ensures
