use Rattle.table_file.proofs.Words.{word_count_is}
use Rattle.table_file.proofs.actionpoint.ActionpointEntry.word_count.Goals as goal

pub returns : goal.returns
returns c = rw c.self.view_is (word_count_is c.args.self.now)
