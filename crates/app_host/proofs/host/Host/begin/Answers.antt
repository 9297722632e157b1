use Rattle.std.proofs.Common.{rules, refl, arith}
use Rattle.app_host.proofs.Begun.{may_start, has_begun}
use Rattle.lc_model.proofs.Services.TableNames.{tables_are_found}
use Rattle.app_host.proofs.host.Host.begin.Goals as goal

pub begin_at-requires : goal.begin_at-requires
begin_at-requires g c = (omega arith, may_start _ c.args.seat _ c.requires.seated c.requires.idle c.is_object.ensures c.requires.may (search rules))

pub returns : goal.returns
returns g c =
    has_begun tables_are_found _ _ c.args.seat _ _ c.requires.seated c.is_service.ensures c.is_service-2.ensures (search rules) c.is_object.ensures c.requires.may
    c.begin_at.ensures.started c.begin_at.ensures.others refl refl refl
