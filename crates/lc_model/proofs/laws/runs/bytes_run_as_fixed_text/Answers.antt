use Rattle.lc_model.proofs.Host.RunsKept.{bytes_run_as_fixed_text}
use Rattle.lc_model.proofs.laws.runs.bytes_run_as_fixed_text.Goals as goal

pub returns : goal.returns
returns c = bytes_run_as_fixed_text
