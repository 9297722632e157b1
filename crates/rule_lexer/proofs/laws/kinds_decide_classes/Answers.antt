use Rattle.rule_lexer.proofs.Classes.{kinds_decide}
use Rattle.rule_lexer.proofs.laws.kinds_decide_classes.Goals as goal

pub returns : goal.returns
returns c = kinds_decide
