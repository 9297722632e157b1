-- The law, as it was shown of the definitions.
use Rattle.stream_script.proofs.Telemetry.{says_telemetry}
use Rattle.stream_script.proofs.laws.telemetry_lines_say_telemetry.Goals as goal

pub returns : goal.returns
returns c = says_telemetry
