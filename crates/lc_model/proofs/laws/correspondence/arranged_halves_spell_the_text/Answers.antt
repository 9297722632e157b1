use Rattle.lc_model.proofs.Tables.ArrangedLaws.{arranged_halves_spell_the_text}
use Rattle.lc_model.proofs.laws.correspondence.arranged_halves_spell_the_text.Goals as goal

pub returns : goal.returns
returns c = arranged_halves_spell_the_text
