use Rattle.std.proofs.Common.{refl}
use Rattle.app_host.proofs.Stepping.{whole_begun}
use Rattle.lc_model.proofs.Services.TableNames.{tables_are_found}
use Rattle.app_host.proofs.host.Host.begin_step.Goals as goal

pub returns-clause-begun : goal.returns-clause-begun
returns-clause-begun g c = record {
  whole = whole_begun tables_are_found c.args.moment _ _ c.is_service.ensures c.requires.whole refl refl refl;
  stock = refl;
  seats = refl;
  services = refl;
  is_closed = refl;
  calls = refl;
}
