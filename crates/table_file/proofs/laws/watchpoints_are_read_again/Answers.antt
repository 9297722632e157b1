use Rattle.table_file.proofs.WatchpointsAgain.{watchpoints_again}
use Rattle.table_file.proofs.laws.watchpoints_are_read_again.Goals as goal

pub returns : goal.returns
returns c = watchpoints_again
