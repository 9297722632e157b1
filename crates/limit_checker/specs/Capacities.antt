-- The capacities of the lists of `LC`. This project's own.
use Rattle.lc_model.specs.Codes.{table_entries}
use Rattle.limit_engine.specs.Capacities.{engine_capacities}
use Rattle.limit_checker.specs.declared.capacities.CheckerCapacities.{CheckerCapacities}

-- There is room for the reactions of all rules of the largest table, beside the room of the engine.
abbrev pub checker_capacities : CheckerCapacities
checker_capacities = record { engine = engine_capacities; asked = table_entries }
