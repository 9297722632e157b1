use Rattle.host_refinement.proofs.Commands.{moves_by_name, loads_by_name, commands_keep_forms}
use Rattle.host_refinement.proofs.table_commands_go_by_names.Goals as goal

pub returns-clause-moves : goal.returns-clause-moves
returns-clause-moves c = moves_by_name c.table_services_go_by_names.ensures.found c.table_services_go_by_names.ensures.changes

pub returns-clause-forms : goal.returns-clause-forms
returns-clause-forms c = commands_keep_forms

pub returns-clause-loads : goal.returns-clause-loads
returns-clause-loads c = loads_by_name c.table_services_go_by_names.ensures.found c.table_services_go_by_names.ensures.changes
