use Rattle.lc_model.specs.Tables.Image.{all_words}
use Rattle.table_file.proofs.Words.{HasNoEqual}
use Rattle.table_file.proofs.actionpoint.ActionpointEntry.equation_length.Given as goal

abbrev pub invariant-loop-number : goal.invariant-loop-number
invariant-loop-number l = HasNoEqual (all_words l.self) l.number
