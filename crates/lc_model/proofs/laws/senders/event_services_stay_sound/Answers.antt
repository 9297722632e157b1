use Rattle.lc_model.proofs.Services.SenderLaws.{registering_keeps, unregistering_keeps, commands_keep, events_keep, with_events_keeps}
use Rattle.lc_model.proofs.laws.senders.event_services_stay_sound.Goals as goal

pub returns-clause-registering : goal.returns-clause-registering
returns-clause-registering c = registering_keeps

pub returns-clause-unregistering : goal.returns-clause-unregistering
returns-clause-unregistering c = unregistering_keeps

pub returns-clause-commands : goal.returns-clause-commands
returns-clause-commands c = commands_keep

pub returns-clause-events : goal.returns-clause-events
returns-clause-events c = events_keep

pub returns-clause-changes : goal.returns-clause-changes
returns-clause-changes c = with_events_keeps
