use Rattle.run_commands.proofs.Statuses.{IsWorstOfFirst}
use Rattle.run_commands.proofs.worst.worst_of.Given as goal

abbrev pub invariant-loop-status : goal.invariant-loop-status
invariant-loop-status l = IsWorstOfFirst l.status-index l.statuses l.worst
