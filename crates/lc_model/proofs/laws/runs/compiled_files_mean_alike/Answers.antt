use Rattle.lc_model.proofs.Tables.HalfFiles.{compiled_files_mean_alike}
use Rattle.lc_model.proofs.laws.runs.compiled_files_mean_alike.Goals as goal

pub returns : goal.returns
returns c = compiled_files_mean_alike
