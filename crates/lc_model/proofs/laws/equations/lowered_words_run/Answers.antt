use Rattle.lc_model.proofs.Tables.LoweredRules.{lowered_words_run}
use Rattle.lc_model.proofs.laws.equations.lowered_words_run.Goals as goal

pub returns : goal.returns
returns c = lowered_words_run
