use Rattle.lc_model.proofs.Services.TableServiceLaws.{first_is_sound, files_stay_sound, registering_stays_sound, unregistering_stays_sound, commands_stay_sound, changes_stay_sound}
use Rattle.lc_model.proofs.laws.table_services.table_services_stay_sound.Goals as goal

pub returns-clause-first : goal.returns-clause-first
returns-clause-first c = first_is_sound

pub returns-clause-files : goal.returns-clause-files
returns-clause-files c = files_stay_sound

pub returns-clause-registering : goal.returns-clause-registering
returns-clause-registering c = registering_stays_sound

pub returns-clause-unregistering : goal.returns-clause-unregistering
returns-clause-unregistering c = unregistering_stays_sound

pub returns-clause-commands : goal.returns-clause-commands
returns-clause-commands c = commands_stay_sound

pub returns-clause-changes : goal.returns-clause-changes
returns-clause-changes c = changes_stay_sound
