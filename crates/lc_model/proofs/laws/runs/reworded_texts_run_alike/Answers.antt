use Rattle.lc_model.proofs.Host.RewordedTexts.{reworded_texts_run_alike}
use Rattle.lc_model.proofs.laws.runs.reworded_texts_run_alike.Goals as goal

pub returns : goal.returns
returns c = reworded_texts_run_alike
