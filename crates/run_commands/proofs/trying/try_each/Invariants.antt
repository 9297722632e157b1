use Rattle.std.proofs.Common.{◌≡◌, length}
use Rattle.run_commands.proofs.trying.try_each.Given as goal

abbrev pub invariant-loop-script : goal.invariant-loop-script
invariant-loop-script g l = length l.statuses.items ≡ l.script-index
