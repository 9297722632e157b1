use Rattle.lc_model.proofs.Host.WholeRuns.{bytes_run_as_texts}
use Rattle.lc_model.proofs.laws.runs.bytes_run_as_texts.Goals as goal

pub returns : goal.returns
returns c = bytes_run_as_texts
