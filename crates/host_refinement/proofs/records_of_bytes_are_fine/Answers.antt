use Rattle.host_refinement.proofs.Brought.{streams_bring}
use Rattle.host_refinement.proofs.FineFiles.{records_are_fine}
use Rattle.host_refinement.proofs.records_of_bytes_are_fine.Goals as goal

pub returns-clause-brought : goal.returns-clause-brought
returns-clause-brought c = streams_bring

pub returns-clause-fine : goal.returns-clause-fine
returns-clause-fine c = records_are_fine
