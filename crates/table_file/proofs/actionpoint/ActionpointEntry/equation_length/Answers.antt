use Rattle.std.proofs.Common.{sym, ◌∙◌, arith}
use Rattle.lc_model.specs.Tables.Image.{all_words}
use Rattle.table_file.proofs.Words.{equal_found, no_equal_found}
use Rattle.table_file.proofs.actionpoint.ActionpointEntry.equation_length.Goals as goal

pub returns-then-word : goal.returns-then-word
returns-then-word c =
    equal_found (all_words c.args.self.now) c.loop-number.number (omega arith) c.loop-number.invariant (sym c.word.ensures ∙ c.if-word.true)

pub returns : goal.returns
returns c =
    no_equal_found (all_words c.args.self.now) c.word_count-count.result c.word_count-count.ensures (λ k h. c.loop-number.invariant k (omega arith))
