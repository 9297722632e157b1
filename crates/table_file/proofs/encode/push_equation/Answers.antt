use Rattle.lc_model.specs.Tables.Equation.{equal_word}
use Rattle.lc_model.specs.Tables.Image.{words_in}
use Rattle.table_file.specs.Layout.{layout_of}
use Rattle.table_file.proofs.Appending.{equation_written}
use Rattle.table_file.proofs.encode.push_equation.Goals as goal

pub returns : goal.returns
returns c =
    equation_written (words_in (layout_of c.args.layout)) c.args.words.now equal_word c.args.out.now.items _ _ _
    c.in_ok-push_words.ensures c.in_ok-push_u16.ensures (rw c.words.ensures at c.in_ok-push_zeros.ensures)
