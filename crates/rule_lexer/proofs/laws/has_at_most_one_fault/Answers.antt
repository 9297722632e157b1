use Rattle.rule_lexer.proofs.Faults.{at_most_one_fault}
use Rattle.rule_lexer.proofs.laws.has_at_most_one_fault.Goals as goal

pub returns : goal.returns
returns c = at_most_one_fault
