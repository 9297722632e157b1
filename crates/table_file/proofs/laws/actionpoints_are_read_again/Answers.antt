use Rattle.table_file.proofs.ActionpointsAgain.{actionpoints_again}
use Rattle.table_file.proofs.laws.actionpoints_are_read_again.Goals as goal

pub returns : goal.returns
returns c = actionpoints_again
