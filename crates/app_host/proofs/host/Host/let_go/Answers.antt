use Rattle.std.proofs.Common.{refl}
use Rattle.app_host.proofs.Flushed.{same_seated}
use Rattle.lc_model.proofs.Services.TableNames.{tables_are_found}
use Rattle.app_host.proofs.host.Host.let_go.Goals as goal

pub returns-clause-seated : goal.returns-clause-seated
returns-clause-seated g c =
    same_seated tables_are_found _ c.args.self.now.services _ c.is_service.ensures (record { bus = refl; events = refl; tables = refl; counts = refl }) c.requires.seated
