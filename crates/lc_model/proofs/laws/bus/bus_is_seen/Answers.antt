use Rattle.lc_model.proofs.Services.BusLaws.{publication_is_seen, pipe_is_seen, removal_is_seen, receipt_is_seen}
use Rattle.lc_model.proofs.laws.bus.bus_is_seen.Goals as goal

pub returns-clause-publication : goal.returns-clause-publication
returns-clause-publication c = publication_is_seen

pub returns-clause-pipe : goal.returns-clause-pipe
returns-clause-pipe c = pipe_is_seen

pub returns-clause-removal : goal.returns-clause-removal
returns-clause-removal c = removal_is_seen

pub returns-clause-receipt : goal.returns-clause-receipt
returns-clause-receipt c = receipt_is_seen
