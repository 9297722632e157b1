use Rattle.lc_model.proofs.Tables.SpellingLaws.{bytes_follow_texts}
use Rattle.lc_model.proofs.laws.correspondence.bytes_follow_texts.Goals as goal

pub returns : goal.returns
returns c = bytes_follow_texts
