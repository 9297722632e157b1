use Rattle.app_host.proofs.Sent.{nothing_is_told, telling_goes_on, still_sends}
use Rattle.app_host.proofs.sending.telling_goes_on.Goals as goal

pub returns-clause-nothing : goal.returns-clause-nothing
returns-clause-nothing c = nothing_is_told

pub returns-clause-goes_on : goal.returns-clause-goes_on
returns-clause-goes_on c = telling_goes_on

pub returns-clause-keeps : goal.returns-clause-keeps
returns-clause-keeps c = still_sends
