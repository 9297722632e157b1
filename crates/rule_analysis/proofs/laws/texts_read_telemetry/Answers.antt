use Rattle.rule_analysis.proofs.TextFields.{texts_read_telemetry}
use Rattle.rule_analysis.proofs.laws.texts_read_telemetry.Goals as goal

pub returns : goal.returns
returns c = texts_read_telemetry
