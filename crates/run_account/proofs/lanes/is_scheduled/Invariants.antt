use Rattle.std.proofs.Common.{◌≡◌, drop}
use Rattle.run_account.specs.Lanes.{is_scheduled}
use Rattle.run_account.proofs.lanes.is_scheduled.Given as goal

abbrev pub invariant-loop-slot : goal.invariant-loop-slot
invariant-loop-slot l = is_scheduled (drop l.slot l.schedule) l.rule ≡ is_scheduled l.schedule l.rule
