use Rattle.lc_model.proofs.Services.SenderLogs.{same_by_logs, all_same_by_logs}
use Rattle.lc_model.proofs.laws.senders.event_services_go_by_logs.Goals as goal

pub returns-clause-call : goal.returns-clause-call
returns-clause-call c = same_by_logs

pub returns-clause-calls : goal.returns-clause-calls
returns-clause-calls c = all_same_by_logs
