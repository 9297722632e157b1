use Rattle.std.proofs.Common.{decimal}
use Rattle.c_interface.proofs.Sentences.{in_four}
use Rattle.c_interface.proofs.error_sentences.expectation.Goals as goal

pub returns-clause-text : goal.returns-clause-text
returns-clause-text c =
    in_four c.args.before.now c.args.what.now c.args.between.now (decimal c.args.at) _ _ _ _ c.of-all.ensures c.add.ensures.text c.add-2.ensures.text c.add_number.ensures.text
