use Rattle.lc_model.proofs.Tables.SpellingLaws.{halves_spell_the_text}
use Rattle.lc_model.proofs.laws.correspondence.halves_spell_the_text.Goals as goal

pub returns : goal.returns
returns c = halves_spell_the_text
