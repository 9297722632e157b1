use Rattle.std.proofs.Common.{refl}
use Rattle.app_host_tests.proofs.Names.{closes}
use Rattle.app_host_tests.proofs.named.leave.Goals as goal

pub returns : goal.returns
returns c =
    closes c.args.seat c.args.services.now _ c.unregister-unregistered.result c.event_services_go_by_names.ensures.unregistering
    (record { seats = c.is_service.ensures.seats; names = c.is_service.ensures.names; count = c.is_service.ensures.count })
    c.remove_pipe-removed.ensures.after c.unregister-unregistered.ensures.answer c.unregister-unregistered.ensures.refused c.unregister.ensures refl refl refl
