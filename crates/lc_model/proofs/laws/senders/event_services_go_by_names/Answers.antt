use Rattle.lc_model.proofs.Services.SenderLaws.{registering_by_name, unregistering_by_name, commands_by_name, events_by_name}
use Rattle.lc_model.proofs.laws.senders.event_services_go_by_names.Goals as goal

pub returns-clause-registering : goal.returns-clause-registering
returns-clause-registering c = registering_by_name

pub returns-clause-unregistering : goal.returns-clause-unregistering
returns-clause-unregistering c = unregistering_by_name

pub returns-clause-commands : goal.returns-clause-commands
returns-clause-commands c = commands_by_name

pub returns-clause-events : goal.returns-clause-events
returns-clause-events c = events_by_name
