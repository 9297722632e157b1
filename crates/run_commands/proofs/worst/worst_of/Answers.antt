use Rattle.std.proofs.Common.{subst}
use Rattle.std.proofs.lemmas.List.{take_all}
use Rattle.std.specs.Prelude.{◌≤◌, All}
use Rattle.run_commands.specs.Worst.{badness}
use Rattle.run_commands.proofs.Statuses.{one_more}
use Rattle.run_commands.proofs.worst.worst_of.Goals as goal

pub loop-status-preserved : goal.loop-status-preserved
loop-status-preserved c = one_more c.args.statuses.now c.loop-status.status-index c.loop-status.worst c.worse_status-worst.result
    c.loop-status-test.true c.loop-status.invariant c.worse_status-worst.ensures

pub returns : goal.returns
returns c = (
  subst (All (λ status. badness status ≤ badness c.loop-status.worst))
      (take_all c.loop-status.status-index c.args.statuses.now c.loop-status-test.false) c.loop-status.invariant.0,
  c.loop-status.invariant.1,
)
