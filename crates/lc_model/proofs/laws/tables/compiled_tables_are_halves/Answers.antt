use Rattle.lc_model.proofs.Tables.CompiledTables.{compiled_tables_are_halves}
use Rattle.lc_model.proofs.laws.tables.compiled_tables_are_halves.Goals as goal

pub returns : goal.returns
returns c = compiled_tables_are_halves
