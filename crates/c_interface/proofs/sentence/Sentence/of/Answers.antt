use Rattle.std.proofs.Common.{rules, length}
use Rattle.c_interface.proofs.Sentences.{zeros_behind}
use Rattle.c_interface.proofs.sentence.Sentence.of.Goals as goal

pub returns-clause-zeros : goal.returns-clause-zeros
returns-clause-zeros c = zeros_behind c.copy_from_slice.new.self (length c.args.words.now) 252 (search rules)
