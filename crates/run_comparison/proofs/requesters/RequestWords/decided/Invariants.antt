use Rattle.std.proofs.Common.{length}
use Rattle.run_comparison.proofs.requesters.RequestWords.decided.Given as goal

abbrev pub decreases-loop-packet : goal.decreases-loop-packet
decreases-loop-packet l = length l.rest
