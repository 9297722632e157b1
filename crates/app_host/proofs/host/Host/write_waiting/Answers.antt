use Rattle.std.proofs.Common.{rules, refl}
use Rattle.app_host.proofs.Deliver.{flushed_so}
use Rattle.lc_model.proofs.Services.TableNames.{tables_are_found}
use Rattle.app_host.proofs.host.Host.write_waiting.Goals as goal

pub returns-in-Ok-clause-flushed : goal.returns-in-Ok-clause-flushed
returns-in-Ok-clause-flushed g c =
    flushed_so tables_are_found _ _ c.is_service.ensures c.requires.seated refl refl refl refl refl refl refl (search rules) refl

pub returns-in-Err-clause-flushed : goal.returns-in-Err-clause-flushed
returns-in-Err-clause-flushed g c =
    flushed_so tables_are_found _ _ c.is_service.ensures c.requires.seated refl refl refl refl refl refl refl (search rules) refl
