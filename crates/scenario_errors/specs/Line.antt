-- The faulty line of a refused scenario. This project's own.
use Rattle.std.specs.Prelude.{ℕ, Option, Some, None}
use Rattle.scenario_trial.specs.declared.expectation_lines.ReadError.TheVariants as reading
use Rattle.scenarios.specs.declared.error.ScenarioError.TheVariants as scenario
use Rattle.stream_script.specs.declared.error.ScriptError.TheVariants as script
use Rattle.scenario_errors.specs.declared.line_error.LineError.{LineError}
use Rattle.scenario_errors.specs.declared.line_error.LineError.TheVariants as line

-- the faulty line of a refused scenario; none if memory ran out
abbrev pub line_in : LineError → Option ℕ
line_in (line.Words (scenario.Line n reason)) = Some n
line_in (line.Words scenario.Memory) = None
line_in (line.Expectation (reading.Line n fault)) = Some n
line_in (line.Expectation reading.Memory) = None
line_in (line.Script (script.Line n reason)) = Some n
line_in (line.Script script.Memory) = None
