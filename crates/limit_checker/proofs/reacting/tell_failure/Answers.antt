use Rattle.std.proofs.Common.{Some, sym, subst}
use Rattle.lc_model.specs.Name.{lc_name}
use Rattle.app_host.specs.Telling.{Tells}
use Rattle.limit_engine.specs.Reactions.{failure_requests}
use Rattle.limit_checker.proofs.reacting.tell_failure.Goals as goal

pub returns-in-Requested-clause-told : goal.returns-in-Requested-clause-told
returns-in-Requested-clause-told c = λ this is.
    subst (λ failure. Tells c.args.from.now lc_name (failure_requests this c.args.rule (Some failure)) c.args.services.now c.request.new.services)
    (sym c.in-Requested.is) (c.request.ensures.told this is)
