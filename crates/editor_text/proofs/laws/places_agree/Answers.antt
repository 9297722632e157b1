use Rattle.editor_text.proofs.Codes.{agree}
use Rattle.editor_text.proofs.laws.places_agree.Goals as goal

pub returns : goal.returns
returns c = agree
