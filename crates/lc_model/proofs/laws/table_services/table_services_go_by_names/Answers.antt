use Rattle.lc_model.proofs.Services.TableNames.{tables_are_found, registering_tables, unregistering_tables, changing_tables, storing_files}
use Rattle.lc_model.proofs.laws.table_services.table_services_go_by_names.Goals as goal

pub returns-clause-found : goal.returns-clause-found
returns-clause-found c = tables_are_found

pub returns-clause-registering : goal.returns-clause-registering
returns-clause-registering c = registering_tables

pub returns-clause-unregistering : goal.returns-clause-unregistering
returns-clause-unregistering c = unregistering_tables

pub returns-clause-changes : goal.returns-clause-changes
returns-clause-changes c = changing_tables

pub returns-clause-files : goal.returns-clause-files
returns-clause-files c = storing_files
