use Rattle.std.proofs.Common.{rules, refl, arith}
use Rattle.app_host.proofs.Withdrawn.{may_withdraw, has_withdrawn}
use Rattle.lc_model.proofs.Services.TableNames.{tables_are_found}
use Rattle.app_host.proofs.host.Host.withdraw.Goals as goal

pub withdraw_at-app-requires : goal.withdraw_at-app-requires
withdraw_at-app-requires g c = (
  omega arith,
  may_withdraw c.args.seat _ _ c.requires.idle (c.requires.seated.running c.args.seat) c.requires.there,
)

pub returns-clause-withdrawn : goal.returns-clause-withdrawn
returns-clause-withdrawn g c =
    has_withdrawn tables_are_found _ _ c.args.seat _ _ refl c.requires.seated c.requires.idle c.is_service.ensures c.is_service-2.ensures (search rules) c.requires.there
    c.withdraw_at-app.ensures.left c.withdraw_at-app.ensures.gone refl refl refl
