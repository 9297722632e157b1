use Rattle.std.proofs.Common.{◌||◌, drop, sym, ◌∙◌}
use Rattle.lc_model.specs.Tables.Image.{all_words}
use Rattle.table_validator.proofs.Reading.{reads_behind}
use Rattle.table_validator.proofs.equation_words.WordScan.read_behind.Goals as goal

pub returns : goal.returns
returns c = λ count.
    (λ i. record c.args.self.now { word_behind = c.args.self.now.word_behind || c.has_word_from.ensures i })
    ∙ sym (reads_behind count c.args.self.now (drop c.args.first (all_words c.args.entry.now)) c.requires.ended)
