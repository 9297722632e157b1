-- The capacities of the engine's lists. This project's own.
use Rattle.std.specs.Prelude.{◌*◌}
use Rattle.lc_model.specs.Codes.{table_entries}
use Rattle.lc_model.specs.Tables.Image.{WideActionpoints, words_in}
use Rattle.limit_engine.specs.Ids.{telemetry_ids}
use Rattle.limit_engine.specs.Plan.{most_places, most_steps}
use Rattle.limit_engine.specs.Steps.{most_meanings}
use Rattle.limit_engine.specs.declared.capacities.EngineCapacities.{EngineCapacities}
use Rattle.limit_engine.specs.declared.capacities.PlanCapacities.{PlanCapacities}
use Rattle.limit_engine.specs.declared.capacities.WatchpointCapacities.{WatchpointCapacities}

-- There is room for the watchpoints of the largest table, each of which may be of another message id.
abbrev pub watchpoint_capacities : WatchpointCapacities
watchpoint_capacities = record {
  terms = table_entries;
  ids = table_entries;
  places = telemetry_ids;
  spans = table_entries;
  watches = table_entries;
}

-- There is room for the steps of the largest tables, for the last truth of each watchpoint and step, and for each meaning.
abbrev pub plan_capacities : PlanCapacities
plan_capacities = record { steps = most_steps; roots = table_entries; places = most_places; meanings = most_meanings }

-- There is room for the largest tables, and for a result, a state and counts of each watchpoint and rule.
abbrev pub engine_capacities : EngineCapacities
engine_capacities = record {
  watchpoints = watchpoint_capacities;
  watch = table_entries;
  entries = table_entries;
  points = table_entries;
  words = words_in WideActionpoints * table_entries;
  plan = plan_capacities;
}
