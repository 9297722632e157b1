use Rattle.std.proofs.Common.{refl, arith}
use Rattle.app_host.proofs.Closed.{goes_from}
use Rattle.app_host.proofs.Departed.{may_retire, has_vacated}
use Rattle.lc_model.proofs.Services.TableNames.{tables_are_found}
use Rattle.app_host.proofs.host.Host.vacate.Goals as goal

pub retire_at-retired-requires : goal.retire_at-retired-requires
retire_at-retired-requires g c = (
  omega arith,
  may_retire c.args.seat _ _ c.requires.idle (c.requires.seated.running c.args.seat),
)

pub returns-clause-vacated : goal.returns-clause-vacated
returns-clause-vacated g c =
    has_vacated tables_are_found _ _ c.args.seat c.requires.seated c.requires.idle c.is_service.ensures c.is_service-2.ensures c.retire_at-retired.ensures.below refl
    c.retire_at-retired.ensures.gone refl refl _ refl c.retire_at-retired.ensures.left

pub returns-clause-goes : goal.returns-clause-goes
returns-clause-goes g c = goes_from c.args.seat _ _ _ _ c.retire_at-retired.ensures.left c.retire_at-retired.ensures.retired
