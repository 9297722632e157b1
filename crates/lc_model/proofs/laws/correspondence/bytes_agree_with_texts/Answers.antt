use Rattle.lc_model.proofs.Tables.SpellingLaws.{bytes_agree_with_texts}
use Rattle.lc_model.proofs.laws.correspondence.bytes_agree_with_texts.Goals as goal

pub returns : goal.returns
returns c = bytes_agree_with_texts
