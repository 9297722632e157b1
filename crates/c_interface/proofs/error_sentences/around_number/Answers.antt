use Rattle.std.proofs.Common.{decimal}
use Rattle.c_interface.proofs.Sentences.{in_three}
use Rattle.c_interface.proofs.error_sentences.around_number.Goals as goal

pub returns-clause-text : goal.returns-clause-text
returns-clause-text c =
    in_three c.args.before.now (decimal c.args.number) c.args.after.now _ _ _ c.of-all.ensures c.add_number.ensures.text c.add.ensures.text
